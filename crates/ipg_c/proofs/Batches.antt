-- Inputs that are answered one after another.
use Rattle.std.proofs.Common.{◌≡◌, ℕ, ◌+◌, ◌<◌, refl, sym, ap, ◌∙◌, subst, List, [], ◌∷◌, ◌++◌, map, take, length, get_or, append_assoc, append-nil}
use Rattle.std.proofs.lemmas.List.{take_more, map-append}
use Rattle.ipg_core.specs.Grammar.{Grammar}
use Rattle.ipg_tree_rows.specs.declared.row.TreeRow.{TreeRow}
use Rattle.ipg_c_trees.specs.declared.answering.Answer.{Answer}
use Rattle.ipg_c_trees.specs.Comes.{IsAnswer, AllCome}
use Rattle.ipg_c.specs.declared.words.Word.{Word}
use Rattle.ipg_c.specs.Handed.{words_of}

-- one input more
behind : (g : Grammar) (inputs : List (List ℕ)) (answers : List Answer) (rows : List TreeRow) (input : List ℕ) (answer : Answer) (own : List TreeRow)
    → AllCome g inputs answers rows → IsAnswer g input answer own → AllCome g (inputs ++ input ∷ []) (answers ++ answer ∷ []) (rows ++ own)
behind g [] [] rows input answer own none is = (own, [], is, refl, ap (λ these. these ++ own) none ∙ sym (append-nil own))
behind g (first ∷ inputs) (told ∷ answers) rows input answer own all is = (
  all.0,
  all.1 ++ own,
  all.2,
  behind g inputs answers all.1 input answer own all.3 is,
  ap (λ these. these ++ own) all.4 ∙ append_assoc all.0 all.1 own,
)
behind g [] (told ∷ answers) rows input answer own all is = absurd all
behind g (first ∷ inputs) [] rows input answer own all is = absurd all

-- the bytes of one word more
one_more : (words : List Word) (i : ℕ) (d : Word) → i < length words
    → words_of (take (i + 1) words) ≡ words_of (take i words) ++ (get_or words i d).bytes.now ∷ []
one_more words i d less =
    ap words_of (take_more words i d less) ∙ map-append (λ (word : Word). word.bytes.now) (take i words) (get_or words i d ∷ [])

pub go_on : (g : Grammar) (words : List Word) (i : ℕ) (d : Word) (answers told : List Answer) (rows all own : List TreeRow) (answer : Answer) → i < length words
    → AllCome g (words_of (take i words)) answers rows → IsAnswer g (get_or words i d).bytes.now answer own → all ≡ rows ++ own
    → told ≡ answers ++ answer ∷ [] → AllCome g (words_of (take (i + 1) words)) told all
go_on g words i d answers told rows all own answer less come is made put =
    let grown = behind g (words_of (take i words)) answers rows ((get_or words i d).bytes.now) answer own come is in
    let here = subst (λ inputs. AllCome g inputs (answers ++ answer ∷ []) (rows ++ own)) (sym (one_more words i d less)) grown in
    let told_here = subst (λ these. AllCome g (words_of (take (i + 1) words)) these (rows ++ own)) (sym put) here in
    subst (λ these. AllCome g (words_of (take (i + 1) words)) told these) (sym made) told_here
