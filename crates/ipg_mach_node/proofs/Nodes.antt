-- The node of an alternative whose terms have all run.
use Rattle.std.proofs.Common.{◌≡◌, ℕ, ◌+◌, ◌≤◌, sym, ap, ◌∙◌, subst, arith, List, Some, Result, Ok, Err, IfOk, OnOk, length}
use Rattle.std.specs.Prelude.{slice_get}
use Rattle.ipg_core.specs.declared.grammar.CoreTerm.{CoreTerm}
use Rattle.ipg_core.specs.Tree.{Kids, kids_of}
use Rattle.ipg_core.specs.Touch.{kids_touch, untouched}
use Rattle.ipg_core.specs.Environment.{Values}
use Rattle.ipg_core.specs.Meaning.{Frame, State, kids_done, attrs_set, node_of}
use Rattle.ipg_core.specs.Within.{KidsWithin, AreEnds, TreeWithin}
use Rattle.ipg_region.specs.declared.region.RunId.{RunId}
use Rattle.ipg_mach_nodes.specs.declared.kid.Kid.{Kid}
use Rattle.ipg_mach_nodes.specs.declared.kid.Head.{Head}
use Rattle.ipg_mach_nodes.specs.Stored.{Stored, Source, StandsTree, StandKids, kids_levels, with_node}
use Rattle.ipg_mach_nodes.specs.Laws.{KidsStay}
use Rattle.ipg_table.specs.Rows.{Rows, attrs_in}
use Rattle.ipg_mach_results.specs.Flat.{AreFlat}
use Rattle.ipg_mach_results.specs.Standing.{OfKids}
use Rattle.ipg_mach_node.specs.declared.closing.Closing.{Closing}
use Rattle.ipg_mach_node.specs.Closes.{Closes, head_of}
use Rattle.ipg_mach_node.specs.Laws.{GrowsByNode}
use Rattle.ipg_mach_node.specs.Kept.{rows_done, attrs_at}
use Rattle.ipg_mach_node.proofs.Growing as growing
use Rattle.ipg_mach_node.proofs.Inside as inside
use Rattle.ipg_mach_node.proofs.Past as past
use Rattle.ipg_mach_node.proofs.Rows as rows

-- what an answer that is there says
pub if_ok : {A E : Type 0} (answer : Result A E) (P Q : A → Type 0) (S : Type 0) → IfOk answer P → OnOk answer S → ((a : A) → P a → S → Q a) → IfOk answer Q
if_ok (Ok a) P Q S h k go = go a h k
if_ok (Err e) P Q S h k go = tt

-- the levels of a node are one more than those of its children
pub one_above : (ones : Kids) (n m : ℕ) → kids_levels ones ≤ n → m ≡ n + 1 → kids_levels ones + 1 ≤ m
one_above ones n m h is = omega (arith, h, is)

module _ (src : Source) (st : Stored) (at : ℕ) (t : Rows) (call : Closing) (f : Frame) (terms : List CoreTerm) (state : State)
    (closes : Closes src st at t call f terms state)
  where
    abbrev kids : Kids
    kids = kids_of (kids_done state.done)

    stand : StandKids src st at (rows_done call.done.now) kids
    stand = rows.kids_stand src st at call.size call.done.now state.done closes.done

    flat : AreFlat kids
    flat = rows.kids_flat src st at call.size call.done.now state.done closes.done

    within : KidsWithin call.size kids
    within = rows.kids_within src st at call.size call.done.now state.done closes.done

    attrs_same : attrs_at call.own.now call.sets.now ≡ attrs_set terms state.own
    attrs_same =
        ap (attrs_at call.own.now) closes.sets ∙ ap (λ (own : Values). attrs_at own (attrs_in terms)) (sym closes.own) ∙ sym (rows.attrs_are terms state.own)

    head_same : head_of call.rule call.size kids ≡ head_of f.rule (length f.bytes) kids
    head_same = ap (λ (r : ℕ). head_of r call.size kids) (sym closes.rule) ∙ ap (λ (n : ℕ). head_of f.rule n kids) (sym closes.size)

    node_within : TreeWithin call.size (node_of f terms state)
    unfolding node_of
    node_within =
        let Ends : ℕ → Type 0 = λ n. (let e = kids_touch kids (untouched n) in AreEnds call.size e.start e.end) in
        (closes.size, subst Ends (sym closes.size) (inside.kids_inside call.size kids flat within), within)

    module _ (stays : KidsStay) (grows : GrowsByNode) (head : Head) (levels : ℕ) (id : RunId) (place : id.place ≡ length st.nodes)
        (is_head : head ≡ head_of call.rule call.size kids) (deep : kids_levels kids + 1 ≤ levels)
      where
        abbrev more : Stored
        more = with_node st head levels (attrs_at call.own.now call.sets.now) (rows_done call.done.now)

        node_stands : StandsTree src more at id (node_of f terms state)
        unfolding node_of
        node_stands = (
          rows_done call.done.now,
          record {
            node = record { head = head; levels = levels; attrs = record { place = length st.attrs }; kids = record { place = length st.kids } };
            is_node = ap (slice_get more.nodes) place ∙ past.last_of st.nodes _;
            is_head = is_head ∙ head_same;
            are_levels = deep;
            are_attrs = past.last_of st.attrs _ ∙ ap Some attrs_same;
            are_kids = past.last_of st.kids _;
          },
          growing.kids_stay stays src st more at call.size (grows st head levels _ _) _ kids stand,
        )

    -- the rows, the head and the levels may be known by what their makers say of them
    pub closed : KidsStay → GrowsByNode → (more : Stored) (attrs : Values) (list : List Kid) (head : Head) (levels : ℕ) (id : RunId)
        → id.place ≡ length st.nodes → more ≡ with_node st head levels attrs list → attrs ≡ attrs_at call.own.now call.sets.now
        → list ≡ rows_done call.done.now
        → OfKids t st list (λ ones. AreFlat ones → KidsWithin call.size ones → head ≡ head_of call.rule call.size ones)
        → OfKids t st list (λ ones. AreFlat ones → kids_levels ones + 1 ≤ levels)
        → StandsTree src more at id (node_of f terms state) × TreeWithin call.size (node_of f terms state)
    closed stays grows more attrs list head levels id place is are_attrs are_kids heads deep =
        let there = subst (λ (rows : List Kid). StandKids src st at rows kids) (sym are_kids) stand in
        let stored : more ≡ with_node st head levels (attrs_at call.own.now call.sets.now) (rows_done call.done.now) =
        is ∙ ap (λ (vs : Values). with_node st head levels vs list) are_attrs ∙ ap (with_node st head levels (attrs_at call.own.now call.sets.now)) are_kids
        in
        let is_head = heads src at kids closes.syms there flat within in
        let stands = node_stands stays grows head levels id place is_head (deep src at kids closes.syms there flat) in
        (subst (λ (s : Stored). StandsTree src s at id (node_of f terms state)) (sym stored) stands, node_within)
