use Rattle.std.proofs.Common.{◌∙◌, ap, sym, subst, length}
use Rattle.ipg_c.specs.Handed.{words_of, read_words, told_of}
use Rattle.ipg_c.specs.Answered.{Replies}
use Rattle.ipg_c.specs.Shown.{shown}
use Rattle.ipg_c.proofs.answer.ipg_run.Goals as goal

pub returns : goal.returns
returns c = record {
  text = c.reply_to-answer.result.text.items;
  replies = subst (Replies (λ name. told_of name c.args.files.now) (read_words (words_of c.args.words.now)) c.reply_to-answer.result.text.items)
      (sym c.code.ensures) c.reply_to-answer.ensures;
  whole = ap length c.as_slice-text.ensures.value;
  room = c.show.ensures ∙ ap (λ t. shown t c.args.room.now) c.as_slice-text.ensures.value;
}
