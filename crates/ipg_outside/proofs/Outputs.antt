-- What a sink tells, over several calls.
use Rattle.std.proofs.Common.{◌≡◌, ℕ, List, [], ◌++◌, take, drop, Option, None, Some, refl, sym, ap, ◌∙◌, append_assoc, append-nil, take-append-drop}
use Rattle.ipg_outside.specs.Sink.{Output, Takes, Breaks, Tells, given}

-- a prefix goes on with the piece
pub breaks-longer : (piece : List ℕ) (a b : Output) → Breaks [] a b → Breaks piece a b
breaks-longer piece a b h = record {
  part = (h.part.0 ++ piece, ap (λ t. t ++ piece) (sym (append-nil (given a)) ∙ h.part.1) ∙ append_assoc b.written h.part.0 piece);
  kept = h.kept;
  none_held = h.none_held;
}

pub tells-broken : (piece : List ℕ) (a b : Option Output) → Tells a b (Breaks []) → Tells a b (Breaks piece)
tells-broken piece None b h = tt
tells-broken piece (Some a) None h = absurd h
tells-broken piece (Some a) (Some b) h = breaks-longer piece a b h

-- what a sink that holds nothing wrote of a piece
pub breaks-at : (bytes piece new : List ℕ) (n : ℕ) → new ≡ bytes ++ take n piece
    → Breaks piece (record { written = bytes; held = [] }) (record { written = new; held = [] })
breaks-at bytes piece new n e = record {
  part = (
    drop n piece,
    ap (λ t. t ++ piece) (append-nil bytes)
        ∙ sym (ap (λ t. t ++ drop n piece) e ∙ append_assoc bytes (take n piece) (drop n piece) ∙ ap (λ t. bytes ++ t) (take-append-drop n piece)),
  );
  kept = (take n piece, e);
  none_held = refl;
}

pub takes-whole : (bytes piece new : List ℕ) → new ≡ bytes ++ piece → Takes piece (record { written = bytes; held = [] }) (record { written = new; held = [] })
takes-whole bytes piece new e = record {
  all = append-nil new ∙ e ∙ sym (ap (λ t. t ++ piece) (append-nil bytes));
  kept = (piece, e);
}
