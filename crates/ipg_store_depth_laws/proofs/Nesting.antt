-- How deep an expression nests, by its parts; what nests so deep nests deeper.
use Rattle.std.proofs.Common.{◌≡◌, ℕ, zero, suc, ◌≤◌, List, [], ◌∷◌, sym, subst, arith}
use Rattle.std.specs.List.{AllByRecursion}
use Rattle.ipg_core.specs.declared.grammar.CoreExpr.{CoreExpr, out-CoreExpr, roll-CoreExpr, out-roll-CoreExpr}
use Rattle.ipg_core.specs.declared.grammar.CoreExpr.TheOpen.{CoreExpr-F}
use Rattle.ipg_store_body.specs.Fits.{HoldsOfParts, NestsWithin}

parts_more : (P Q : CoreExpr → Type 0) → ((e : CoreExpr) → P e → Q e) → (x : CoreExpr-F CoreExpr) → HoldsOfParts P x → HoldsOfParts Q x
parts_more P Q f (CoreExpr-F.Num z) h = tt
parts_more P Q f CoreExpr-F.Eoi h = tt
parts_more P Q f (CoreExpr-F.Own attr) h = tt
parts_more P Q f (CoreExpr-F.Outer attr) h = tt
parts_more P Q f CoreExpr-F.Loop h = tt
parts_more P Q f (CoreExpr-F.Seen term sym field) h = tt
parts_more P Q f (CoreExpr-F.Item term index field) h = f index h
parts_more P Q f (CoreExpr-F.After term left) h = f left h
parts_more P Q f (CoreExpr-F.Neg a) h = f a h
parts_more P Q f (CoreExpr-F.Not a) h = f a h
parts_more P Q f (CoreExpr-F.Two op a b) h = (f a h.0, f b h.1)
parts_more P Q f (CoreExpr-F.Both a b) h = (f a h.0, f b h.1)
parts_more P Q f (CoreExpr-F.Either a b) h = (f a h.0, f b h.1)
parts_more P Q f (CoreExpr-F.Cond c a b) h = (f c h.0, (f a h.1.0, f b h.1.1))

pub deeper : (n m : ℕ) (e : CoreExpr) → n ≤ m → NestsWithin n e → NestsWithin m e
unfolding NestsWithin
deeper zero m e le h = absurd h
deeper (suc n) zero e le h = absurd (omega arith)
deeper (suc n) (suc m) e le h =
    let less : n ≤ m = omega arith in
    parts_more (NestsWithin n) (NestsWithin m) (λ part. deeper n m part less) (out-CoreExpr e) h

rolled : (n : ℕ) (y : CoreExpr-F CoreExpr) (e : CoreExpr) → roll-CoreExpr y ≡ e → HoldsOfParts (NestsWithin n) y → NestsWithin (suc n) e
unfolding NestsWithin
rolled n y e rolls h = subst (NestsWithin (suc n)) rolls (subst (HoldsOfParts (NestsWithin n)) (sym (out-roll-CoreExpr y)) h)

-- an expression whose parts nest n deep at most
pub above : (n m : ℕ) (y : CoreExpr-F CoreExpr) {e : CoreExpr} → roll-CoreExpr y ≡ e → suc n ≤ m → HoldsOfParts (NestsWithin n) y → NestsWithin m e
above n m y {e} rolls le h = deeper (suc n) m e le (rolled n y e rolls h)

pub all_more : {X : Type 0} (P Q : X → Type 0) (xs : List X) → ((x : X) → P x → Q x) → AllByRecursion P xs → AllByRecursion Q xs
all_more P Q [] f h = tt
all_more P Q (x ∷ xs) f h = (f x h.0, all_more P Q xs f h.1)
