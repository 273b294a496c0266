-- From a grammar to its canonical text and back.
use Rattle.std.proofs.Common.{◌≡◌, ℕ, ◌+◌, List, [], ◌∷◌, length, Ok, refl, ap, ◌∙◌, sym}
use Rattle.ipg_ast.specs.declared.grammar.Grammar.{Grammar}
use Rattle.ipg_ast.specs.declared.token.TokenKind.{TokenKind}
use Rattle.ipg_ast.specs.Spelling.{grammar_tokens}
use Rattle.ipg_ast.specs.Canonical.{kind_text, tokens_text}
use Rattle.ipg_read_tokens.specs.Lexical.{tokens_of}
use Rattle.ipg_read_tokens.specs.Shaped.{IsShaped, placed, canonical_text}
use Rattle.ipg_read_token_laws.specs.Back.{GivesTokensBack}
use Rattle.ipg_read_syntax.specs.Reading.{Reads, ReadsWithin}
use Rattle.ipg_read_syntax.specs.Laws.{ReadsBack, ReadsExactly}
use Rattle.ipg_read_canonical_laws.specs.Laws.{kinds, ReadsTokensBack, KeepsTokens, ReadsShaped, RoundTrip, CanonicalStays}

kinds_placed : (at : ℕ) (ks : List TokenKind) → kinds (placed at ks) ≡ ks
kinds_placed at [] = refl
kinds_placed at (k ∷ ks) = ap (λ rest. k ∷ rest) (kinds_placed (at + length (kind_text k) + 1) ks)

canonical_falls : GivesTokensBack → (g : Grammar) → IsShaped g → tokens_of (canonical_text g) ≡ Ok (placed 0 (grammar_tokens g))
canonical_falls back g shaped = back (grammar_tokens g) shaped.tokens shaped.short

pub round_trip : GivesTokensBack → ReadsTokensBack → RoundTrip
round_trip back reads_back g shaped =
    reads_back (canonical_text g) g (placed 0 (grammar_tokens g)) shaped.formed (canonical_falls back g shaped) (kinds_placed 0 (grammar_tokens g))

pub canonical_stays : GivesTokensBack → ReadsExactly → KeepsTokens → ReadsShaped → RoundTrip → CanonicalStays
canonical_stays back exactly keeps reads_shaped trips text g is short =
    let shaped : IsShaped g = reads_shaped text g ((exactly text g).0 is) short in
    let trip : ReadsBack (canonical_text g) g = trips g shaped in
    let within : ReadsWithin (canonical_text g) trip.found = (exactly (canonical_text g) trip.found).0 trip.answer in
    let reads : Reads (canonical_text g) trip.found = record { tree = within.tree; reads = within.reads; is = within.is } in
    record {
      found = trip.found;
      answer = trip.answer;
      same = ap tokens_text (sym (keeps (canonical_text g) trip.found (placed 0 (grammar_tokens g)) reads (canonical_falls back g shaped))
          ∙ kinds_placed 0 (grammar_tokens g));
    }
