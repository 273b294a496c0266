-- What is read of the highest call stands for its environment.
use Rattle.std.proofs.Common.{◌≡◌, ℕ, suc, ◌+◌, ◌-◌, ◌^◌, ◌<◌, arith, refl, sym, ap, ◌∙◌, subst, List, drop, take, length, Some, None, false, ℤ, Bor}
use Rattle.std.specs.Prelude.{slice_get, slice_set, option_map, Option}
use Rattle.std.proofs.lemmas.List.{drop-drop}
use Rattle.std.proofs.lemmas.Option.{slice_get_within}
use Rattle.ipg_core.specs.declared.grammar.CoreTerm.{CoreTerm}
use Rattle.ipg_core.specs.declared.grammar.Sym.{Sym}
use Rattle.ipg_core.specs.Within.{KidsWithin}
use Rattle.ipg_core.specs.Part.{part}
use Rattle.ipg_core.specs.Tree as tree
use Rattle.ipg_core.specs.Tree.{kids_of}
use Rattle.ipg_core.specs.Meaning as meaning
use Rattle.ipg_core.specs.Meaning.{environment, with_kid}
use Rattle.ipg_mach_moves.specs.Moves as moves
use Rattle.ipg_mach_moves.specs.Moves.{OpenCall}
use Rattle.ipg_mach_nodes.specs.declared.kid.Kid.{Kid}
use Rattle.ipg_mach_nodes.specs.Stored.{Stored, Source, StandKids}
use Rattle.ipg_table.specs.declared.row.Instr.{Instr}
use Rattle.ipg_table.specs.declared.row.RowSpan.{RowSpan}
use Rattle.ipg_table.specs.declared.row.SlotRow.{SlotRow}
use Rattle.ipg_table.specs.declared.row.Action.{Action}
use Rattle.ipg_table.specs.declared.row.Action.TheVariants as action
use Rattle.ipg_table.specs.Rows.{Rows, HoldsTerm, StandFor}
use Rattle.ipg_mach_slot.specs.declared.now.Running.{Running}
use Rattle.ipg_mach_slot.specs.declared.now.Done.{Done}
use Rattle.ipg_core.specs.Environment as core
use Rattle.ipg_mach_node.specs.Items.{HasItems}
use Rattle.ipg_mach_slot.specs.Found.{LiesAt}
use Rattle.ipg_mach_slot.specs.Now.{Lent, HasRun, Stands, AreResults, WithRunning}
use Rattle.ipg_mach_term.specs.declared.entry.TermEntry.{TermEntry}
use Rattle.ipg_mach_term.specs.declared.entry.TermEntry.TheVariants as entry
use Rattle.ipg_mach_term.specs.Advance.{IsEntry, environment_at}
use Rattle.ipg_mach.specs.Piled.{Piled, between, below, above}
use Rattle.ipg_mach.specs.declared.frame.Frame.{Frame}
use Rattle.ipg_mach.specs.declared.reader.View.{View}
use Rattle.ipg_mach.specs.Calls.{IsOpen, size_of, running_in, running_at}
use Rattle.ipg_mach.specs.Lending.{Lends}
use Rattle.ipg_mach.proofs.Rows.{between_below}

-- a part of a part lies in the input
pub lies : (input : List ℕ) (from to : ℕ) → LiesAt input from (part input from to)
lies input from to l r valid inside =
    let count : from + r - (from + l) ≡ r - l = omega arith in
    ap (λ n. take n (drop (from + l) input)) count
    ∙ ap (take (r - l)) (sym (drop-drop l from input))
    ∙ sym (between_below (drop from input) (to - from) l r inside)

-- the call is lent, its items in these rows
pub record IsLent (t : Rows) (st : Stored) (frame : Frame) (under above : Piled) (l : Lent) : Type 0 where
  pub rows : l.rows ≡ t
  pub store : l.store ≡ st
  pub size : l.size ≡ size_of frame
  pub small : l.size < 2 ^ 32
  pub own : l.own ≡ above.own
  pub outer : l.outer ≡ between under.own frame.outer.from frame.outer.to
  pub done : l.done ≡ above.done

module _ (t : Rows) (src : Source) (st : Stored) (frame : Frame) (under own : Piled) (items : List tree.Kid) (c : OpenCall)
    (is : IsOpen t src st frame under own items c) (l : Lent) (lent : IsLent t st frame under own l) (part : length c.frame.bytes ≡ size_of frame) where
  has_run : HasRun l src frame.from c.state.done
  has_run = record {
    syms = is.call.syms ∙ ap (λ (r : Rows). r.syms) (sym lent.rows);
    short = let small = lent.small in omega arith;
    done = subst (λ n. AreResults src l.store frame.from n l.done c.state.done) (sym lent.size)
        (subst (λ rows. AreResults src l.store frame.from (size_of frame) rows c.state.done) (sym lent.done)
        (subst (λ st. AreResults src st frame.from (size_of frame) own.done c.state.done) (sym lent.store) is.done));
  }

  plain : l.running ≡ None → Stands l (meaning.environment c.frame c.state None)
  unfolding environment
  plain none = (
    src,
    frame.from,
    record {
      grammar = c.frame.grammar;
      tables = subst (λ r. StandFor r c.frame.grammar) (sym lent.rows) is.call.tables;
      names = refl;
      eoi = part ∙ sym lent.size;
      own = is.attrs ∙ sym lent.own;
      outer = is.call.outer ∙ sym lent.outer;
      item = ap (option_map (λ (r : Running). r.item)) (sym none);
      results = c.state.done;
      run = has_run;
      all = subst (λ r. WithRunning src l.store frame.from l.size r c.state.done c.state.done) (sym none) refl;
    },
  )

  module _ (u : ℕ) (sym_row : ℕ) (one : Sym) (item : ℤ) (rows : Bor (List Kid)) where
    running : l.running ≡ Some (record { term = u; sym = sym_row; items = rows; item = item }) → rows.now ≡ own.items → slice_get src.syms sym_row ≡ Some one
        → u < length c.state.done → Stands l (meaning.environment c.frame (with_kid c.state u false (tree.Array one (kids_of items))) (Some item))
    unfolding environment with_kid
    running some is_rows is_sym inside = (
      src,
      frame.from,
      record {
        grammar = c.frame.grammar;
        tables = subst (λ r. StandFor r c.frame.grammar) (sym lent.rows) is.call.tables;
        names = refl;
        eoi = part ∙ sym lent.size;
        own = is.attrs ∙ sym lent.own;
        outer = is.call.outer ∙ sym lent.outer;
        item = ap (option_map (λ (r : Running). r.item)) (sym some);
        results = c.state.done;
        run = has_run;
        all = subst (λ r. WithRunning src l.store frame.from l.size r c.state.done
            (slice_set c.state.done u (Some (record { is_switch = false; kid = tree.Array one (kids_of items) })))) (sym some) (record {
              one = one;
              items = kids_of items;
              is_sym = is_sym;
              stand = subst (λ rows. StandKids src l.store frame.from rows (kids_of items)) (sym is_rows)
                  (subst (λ st. StandKids src st frame.from own.items (kids_of items)) (sym lent.store) is.have.stand);
              within = subst (λ n. KidsWithin n (kids_of items)) (sym lent.size) is.have.within;
              inside = inside;
              is = refl;
            });
      },
    )

  module _ (instr : Instr) (u : ℕ) (term : CoreTerm) (is_term : slice_get c.terms u ≡ Some term) (number : instr.term ≡ u) (rows : Bor (List Kid))
      (is_rows : rows.now ≡ own.items) where
    at_array : (item : ℤ) (first last : RowSpan) (row : SlotRow) (k : ℕ)
        → l.running ≡ Some (record { term = instr.term; sym = row.sym; items = rows; item = item }) → HoldsTerm t (action.Repeat first last row) term
        → Stands l (environment_at c.frame c.state u (moves.Items (suc k) item items) term)
    at_array item first last row k run holds =
        let slot = holds.2 in
        subst (λ one. Stands l (environment_at c.frame c.state u (moves.Items (suc k) item items) one)) (sym holds.3)
        (running u row.sym slot.sym item rows (run ∙ ap (λ n. Some (record { term = n; sym = row.sym; items = rows; item = item })) number) is_rows
        (ap (λ syms. slice_get syms row.sym) is.call.syms ∙ holds.6.sym)
        (let inside = slice_get_within c.terms u term is_term in let e = is.count in omega arith))

    at_item : (item : ℤ) (act : Action) (k : ℕ) → l.running ≡ running_at instr.term item rows act → HoldsTerm t act term
        → Stands l (environment_at c.frame c.state u (moves.Items (suc k) item items) term)
    at_item item (action.Repeat first last row) k run holds = at_array item first last row k run holds
    at_item item (action.Slot row) k run holds =
        subst (λ one. Stands l (environment_at c.frame c.state u (moves.Items (suc k) item items) one)) (sym holds.1) (plain run)
    at_item item (action.Set attr value) k run holds =
        subst (λ one. Stands l (environment_at c.frame c.state u (moves.Items (suc k) item items) one)) (sym holds.1) (plain run)
    at_item item (action.Test cond) k run holds =
        subst (λ one. Stands l (environment_at c.frame c.state u (moves.Items (suc k) item items) one)) (sym holds.1) (plain run)
    at_item item (action.Many row) k run holds =
        subst (λ one. Stands l (environment_at c.frame c.state u (moves.Items (suc k) item items) one)) (sym holds.1) (plain run)
    at_item item (action.Pick cases other) k run holds =
        subst (λ one. Stands l (environment_at c.frame c.state u (moves.Items (suc k) item items) one)) (sym holds.2) (plain run)

    pub stands_at : (entry : TermEntry) → IsEntry (size_of frame) entry items c.entry → HoldsTerm t instr.action term
        → l.running ≡ running_in instr entry rows → Stands l (environment_at c.frame c.state u c.entry term)
    stands_at entry.Outside entered holds run =
        subst (λ e. Stands l (environment_at c.frame c.state u e term)) (sym entered.1) (plain run)
    stands_at (entry.Turns at to) entered holds run =
        subst (λ e. Stands l (environment_at c.frame c.state u e term)) (sym entered.0) (plain run)
    stands_at (entry.Items left item) entered holds run =
        subst (λ e. Stands l (environment_at c.frame c.state u e term)) (sym entered.2) (at_item item instr.action entered.0 run holds)

-- whatever is lent of the call
pub view_stands : {A : Type 0} (v : View A) (src : Source) (items : List tree.Kid) (c : OpenCall)
    → IsOpen v.tables.now src v.top.now.store v.top.now.frame (below v.top.now.piles v.top.now.frame.base)
    (above v.top.now.piles v.top.now.frame.base) items c
    → length c.frame.bytes ≡ size_of v.top.now.frame → v.size ≡ size_of v.top.now.frame → v.size < 2 ^ 32
    → (u : ℕ) (term : CoreTerm) → slice_get c.terms u ≡ Some term → v.instr.now.term ≡ u
    → IsEntry (size_of v.top.now.frame) v.top.now.frame.entry items c.entry → HoldsTerm v.tables.now v.instr.now.action term
    → (l : Lent) → Lends v l → Stands l (environment_at c.frame c.state u c.entry term)
view_stands v src items c is whole size small u term is_term number entered holds l lends =
    let piles = v.top.now.piles in
    let frame = v.top.now.frame in
    stands_at v.tables.now src v.top.now.store frame (below piles frame.base) (above piles frame.base) items c is l (record {
      rows = lends.rows;
      store = lends.store;
      size = lends.size ∙ size;
      small = subst (λ n. n < 2 ^ 32) (sym lends.size) small;
      own = lends.own;
      outer = lends.outer ∙ sym (between_below piles.own frame.base.own frame.outer.from frame.outer.to is.call.outer_inside);
      done = lends.done;
    }) whole v.instr.now u term is_term number lends.items lends.are_items frame.entry entered holds lends.running

-- ---- what is lent of a call, in other words for the same

module _ (src : Source) (st lent : Stored) (from at n size : ℕ) where
  pub results_lent : (rows new : List (Option Done)) (done : List (Option core.Done)) → st ≡ lent → from ≡ at → n ≡ size → rows ≡ new
      → AreResults src st from n rows done → AreResults src lent at size new done
  results_lent rows new done is_store is_from is_size is_rows h =
      subst (λ l. AreResults src l at size new done) is_store
      (subst (λ a. AreResults src st a size new done) is_from
      (subst (λ k. AreResults src st from k new done) is_size
      (subst (λ r. AreResults src st from n r done) is_rows h)))

  pub items_lent : (rows new : List Kid) (items : List tree.Kid) → st ≡ lent → from ≡ at → n ≡ size → rows ≡ new
      → HasItems src st from n rows items → HasItems src lent at size new items
  items_lent rows new items is_store is_from is_size is_rows h =
      subst (λ l. HasItems src l at size new items) is_store
      (subst (λ a. HasItems src st a size new items) is_from
      (subst (λ k. HasItems src st from k new items) is_size
      (subst (λ r. HasItems src st from n r items) is_rows h)))
