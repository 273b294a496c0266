-- What a caller gets: the reply that the program gives to the words, over the files.
use Rattle.std.specs.Prelude.{◌≡◌, ℕ, List, [], length}
use Rattle.ipg_outside.specs.Files.{Told}
use Rattle.ipg_app_text.specs.Said.{Said}
use Rattle.ipg_app_text.specs.Code.{code_of}
use Rattle.ipg_app_text.specs.Order.{Answers}
use Rattle.ipg_app.specs.Reply.{order_of}
use Rattle.ipg_app_text.specs.declared.status.Status.TheVariants as status
use Rattle.ipg_c.specs.declared.words.Word.{Word}
use Rattle.ipg_c.specs.declared.files.File.{File}
use Rattle.ipg_c.specs.Handed.{words_of, read_words, told_of}
use Rattle.ipg_c.specs.Shown.{shown}

-- the whole reply; or for want of memory no text
pub data Replies (told : List ℕ → Told) (words : List (List ℕ)) (text : List ℕ) (code : ℕ) : Type 0 where
  Whole : (said : Said) → Answers told (order_of words) said → text ≡ said.text → code ≡ code_of said.status → Replies told words text code
  Memory : text ≡ [] → code ≡ code_of status.Memory → Replies told words text code

-- the reply, its length, and as much of it as the room holds
pub record Answered (words : List Word) (files : List File) (before after : List ℕ) (long code : ℕ) : Type 0 where
  pub text : List ℕ
  pub replies : Replies (λ name. told_of name files) (read_words (words_of words)) text code
  pub whole : long ≡ length text
  pub room : after ≡ shown text before
