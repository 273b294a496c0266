-- What was stored before a mark stays as the store grows and is cut behind it.
use Rattle.std.proofs.Common.{◌≡◌, ℕ, ◌≤◌, refl, sym, ap, ◌∙◌, subst, arith, List, ◌++◌, length, take, max}
use Rattle.std.proofs.lemmas.List.{take-append-le, length-append, length-take}
use Rattle.ipg_mach_nodes.specs.declared.store.Mark.{Mark}
use Rattle.ipg_mach_nodes.specs.Stored.{Stored, IsMark, before}
use Rattle.ipg_mach_nodes.specs.Laws.{Grows}
use Rattle.ipg_mach_node.specs.Laws.{BeforeBefore}
use Rattle.ipg_mach.specs.declared.frame.Frame.{Frame}
use Rattle.ipg_mach.specs.Calls.{Shown, Keeps}

longer : {A : Type 0} (xs ys : List A) (n : ℕ) → (rest : List A) × (xs ++ rest ≡ ys) → n ≤ length xs → n ≤ length ys
longer xs ys n more h = let l = length-append xs more.0 in let e = ap length more.1 in omega arith

take_grown : {A : Type 0} (xs ys : List A) (n : ℕ) → (rest : List A) × (xs ++ rest ≡ ys) → n ≤ length xs → take n ys ≡ take n xs
take_grown xs ys n more h = ap (take n) (sym more.1) ∙ take-append-le n xs more.0 h

pub mark_grown : (st more : Stored) (mark : Mark) → Grows st more → IsMark st mark → IsMark more mark
mark_grown st more mark grows h = record {
  nodes = longer st.nodes more.nodes _ grows.nodes h.nodes;
  kids = longer st.kids more.kids _ grows.kids h.kids;
  attrs = longer st.attrs more.attrs _ grows.attrs h.attrs;
}

pub same_stored : (a b : Stored) → a.nodes ≡ b.nodes → a.kids ≡ b.kids → a.attrs ≡ b.attrs → a ≡ b
same_stored a b e k l =
    ap (λ x. let s : Stored = record { nodes = x; kids = a.kids; attrs = a.attrs } in s) e
    ∙ ap (λ x. let s : Stored = record { nodes = b.nodes; kids = x; attrs = a.attrs } in s) k
    ∙ ap (λ x. let s : Stored = record { nodes = b.nodes; kids = b.kids; attrs = x } in s) l

pub before_grown : (st more : Stored) (mark : Mark) → Grows st more → IsMark st mark → before more mark ≡ before st mark
before_grown st more mark grows h =
    same_stored _ _ (take_grown st.nodes more.nodes _ grows.nodes h.nodes) (take_grown st.kids more.kids _ grows.kids h.kids)
    (take_grown st.attrs more.attrs _ grows.attrs h.attrs)

-- ---- a cut at the later of two marks

-- each place of the cut is the greater one
pub record IsCut (one other cut : Mark) : Type 0 where
  pub nodes : cut.nodes.place ≡ max one.nodes.place other.nodes.place
  pub kids : cut.kids.place ≡ max one.kids.place other.kids.place
  pub attrs : cut.attrs.place ≡ max one.attrs.place other.attrs.place

pub cut_turns : (one other cut : Mark) → IsCut one other cut → IsCut other one cut
cut_turns one other cut is = record {
  nodes = let e = is.nodes in omega arith;
  kids = let e = is.kids in omega arith;
  attrs = let e = is.attrs in omega arith;
}

shorter : {A : Type 0} (xs : List A) (n m k : ℕ) → k ≡ max n m → n ≤ length xs → n ≤ length (take k xs)
shorter xs n m k e h = let l = length-take k xs in omega arith

pub cut_mark : (st : Stored) (one other cut : Mark) → IsCut one other cut → IsMark st one → IsMark (before st cut) one
cut_mark st one other cut is h = record {
  nodes = shorter st.nodes _ _ _ is.nodes h.nodes;
  kids = shorter st.kids _ _ _ is.kids h.kids;
  attrs = shorter st.attrs _ _ _ is.attrs h.attrs;
}

pub cut_before : BeforeBefore → (st : Stored) (one other cut : Mark) → IsCut one other cut → before (before st cut) one ≡ before st one
cut_before before_before st one other cut is =
    before_before st one cut (let e = is.nodes in omega arith) (let e = is.kids in omega arith) (let e = is.attrs in omega arith)

-- ---- what the memo stands on

pub keeps_cut : BeforeBefore → (s : Shown) (cut : Mark) (store : Stored) (frame : Frame) → IsCut s.frame.mark s.floor cut
    → store ≡ before s.store cut → IsMark s.store s.floor → Keeps s (record s { store = store; frame = frame })
keeps_cut before_before s cut store frame is e mark =
    let turned = cut_turns s.frame.mark s.floor cut is in
    record {
      floor = refl;
      mark = subst (λ st. IsMark st s.floor) (sym e) (cut_mark s.store s.floor s.frame.mark cut turned mark);
      before = ap (λ st. before st s.floor) e ∙ cut_before before_before s.store s.floor s.frame.mark cut turned;
    }

pub keeps_grown : (s : Shown) (more : Stored) → Grows s.store more → IsMark s.store s.floor → Keeps s (record s { store = more })
keeps_grown s more grows mark = record {
  floor = refl;
  mark = mark_grown s.store more s.floor grows mark;
  before = before_grown s.store more s.floor grows mark;
}

pub keeps_on : (a b c : Shown) → Keeps a b → Keeps b c → Keeps a c
keeps_on a b c first second = record { floor = second.floor ∙ first.floor; mark = second.mark; before = second.before ∙ first.before }

-- ---- marks of what was stored before a mark

fewer : {A : Type 0} (xs : List A) (n k : ℕ) → n ≤ length (take k xs) → (n ≤ length xs) × (n ≤ k)
fewer xs n k h = let l = length-take k xs in (omega arith, omega arith)

pub mark_below : (st : Stored) (later mark : Mark) → IsMark (before st later) mark → IsMark st mark
mark_below st later mark h = record {
  nodes = (fewer st.nodes _ _ h.nodes).0;
  kids = (fewer st.kids _ _ h.kids).0;
  attrs = (fewer st.attrs _ _ h.attrs).0;
}

pub before_below : BeforeBefore → (st : Stored) (later mark : Mark) → IsMark (before st later) mark → before (before st later) mark ≡ before st mark
before_below before_before st later mark h =
    before_before st mark later (fewer st.nodes _ _ h.nodes).1 (fewer st.kids _ _ h.kids).1 (fewer st.attrs _ _ h.attrs).1
