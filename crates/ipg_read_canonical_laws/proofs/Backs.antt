-- A text with the tokens of a well formed grammar reads as that grammar.
use Rattle.std.proofs.Common.{◌≡◌, ap, ◌∙◌, sym, subst}
use Rattle.ipg_ast.specs.Spelling.{grammar_tokens}
use Rattle.ipg_ast.specs.Shape.{IsFormed}
use Rattle.ipg_read_syntax.specs.Bare.{bare_toks}
use Rattle.ipg_read_syntax.specs.Classes.{classes}
use Rattle.ipg_read_syntax.specs.Written.{spell}
use Rattle.ipg_read_syntax.specs.Grammars.{grammar_of}
use Rattle.ipg_read_syntax.specs.Laws.{ReadsBack, ReadsButForPlaces}
use Rattle.ipg_read_canonical_laws.specs.Laws.{ReadsTokensBack}
use Rattle.ipg_read_canonical_laws.proofs.Images.{Of, grammar_tree}
use Rattle.ipg_read_canonical_laws.proofs.Spelt.{spell_kinds}
use Rattle.ipg_read_canonical_laws.proofs.Kinded.{same_kinds}
use Rattle.ipg_read_canonical_laws.proofs.Forms.{formed_fits}

pub reads_tokens_back : ReadsButForPlaces → ReadsTokensBack
reads_tokens_back alike text g ts formed falls same =
    let made_of : Of grammar_of g = grammar_tree g formed in
    let fits = formed_fits made_of.tree (subst IsFormed (sym made_of.is) formed) in
    let spelled : bare_toks (classes ts) ≡ bare_toks (spell made_of.tree) =
    same_kinds ts (spell made_of.tree) (same ∙ ap grammar_tokens (sym made_of.is) ∙ sym (spell_kinds made_of.tree)) in
    subst (ReadsBack text) made_of.is (alike text ts made_of.tree falls spelled fits.0 fits.1)
