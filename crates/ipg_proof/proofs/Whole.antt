-- The parts of a certificate's text, one after another.
use Rattle.std.proofs.Common.{◌≡◌, ℕ, ◌^◌, ◌≤◌, ◌<◌, List, [], ◌∷◌, ◌++◌, refl, subst, arith, Result, Ok, Err}
use Rattle.std.specs.Prelude.{IsErrAnd}
use Rattle.std.specs.List.{flat_map}
use Rattle.ipg_cert.specs.declared.refutation.Refutation.{Refutation}
use Rattle.ipg_proof.specs.declared.certificate.Certificate.{Certificate}
use Rattle.ipg_proof.specs.declared.cursor.Stall.{Stall}
use Rattle.ipg_proof.specs.Texts.{heading, between, number_text, refutation_line, edge_line, cycle_line, counted_text, text_of, IsShort, IsLong, IsTree}
use Rattle.ipg_proof.specs.Texts.{IsEdgeEntry, AreFew, AreCounted, IsCycleEntry, IsSpeakable}
use Rattle.ipg_proof.specs.Reads.{Reads, AreAlone, AreSo, IsFrom, any, always}
use Rattle.ipg_proof.proofs.Readers.{Joins, made_of, exits, read_first, read_second, alone_both, pair_joins, word_joins, alone_word, counted_joins, alone_list}
use Rattle.ipg_proof.proofs.Digits.{alone_short, short_same, alone_long, long_same, one_short, alone_number, number_same}
use Rattle.ipg_proof.proofs.Lines.{leaf, leaf_tree, alone_edge_line}

pub low : 32 < 48
low = omega arith

pub low_feed : 10 < 48
low_feed = omega arith

made_itself : {A : Type 0} (r : Result A Stall) → made_of (λ a. a) r ≡ r
made_itself (Ok a) = refl
made_itself (Err why) = refl

-- ---- EDGE REF

edge_joins : Joins IsShort (number_text 32) (λ n. IsTree) (λ n. refutation_line) IsEdgeEntry edge_line (λ n r. (n, r))
edge_joins = pair_joins IsShort (number_text 32) IsTree refutation_line IsEdgeEntry edge_line (λ n r. (n, r)) (λ e. e.0) (λ e. e.1)
    (λ e. refl) (λ n r. refl) (λ n r h k. (h, k)) (λ e is. is) leaf leaf_tree

pub edge_first : (bytes left : List ℕ) (r : Result (ℕ × Refutation) Stall) (why : Stall) → IsErrAnd r (λ e. e ≡ why)
    → Reads IsShort (number_text 32) bytes left (Err why) → Reads IsEdgeEntry edge_line bytes left r
edge_first bytes left r why exit one = exits IsEdgeEntry edge_line bytes left r why exit
    (read_first IsShort (number_text 32) (λ n. IsTree) (λ n. refutation_line) IsEdgeEntry edge_line (λ n q. (n, q)) edge_joins bytes left why one)

edge_second : (bytes mid left : List ℕ) (n : ℕ) (r : Result Refutation Stall) → Reads IsShort (number_text 32) bytes mid (Ok n)
    → Reads IsTree refutation_line mid left r
    → Reads IsEdgeEntry edge_line bytes left (made_of (λ q. (n, q)) r)
edge_second bytes mid left n r one two =
    read_second IsShort (number_text 32) (λ k. IsTree) (λ k. refutation_line) IsEdgeEntry edge_line (λ k q. (k, q)) edge_joins (alone_short 32 low)
    bytes mid left n r one two

pub edge_halts : (bytes mid left : List ℕ) (n : ℕ) (r : Result (ℕ × Refutation) Stall) (why : Stall) → IsErrAnd r (λ e. e ≡ why)
    → Reads IsShort (number_text 32) bytes mid (Ok n) → Reads IsTree refutation_line mid left (Err why) → Reads IsEdgeEntry edge_line bytes left r
edge_halts bytes mid left n r why exit one two = exits IsEdgeEntry edge_line bytes left r why exit (edge_second bytes mid left n (Err why) one two)

-- ---- K, then K times an EDGE

abbrev pub IsCycle : List ℕ → Type 0
IsCycle es = AreCounted (IsFrom 1) IsShort es

abbrev pub cycle_text : List ℕ → List ℕ
cycle_text es = counted_text 32 (number_text 32) es

alone_count : AreAlone (IsFrom 1) (number_text 32)
alone_count = alone_number 32 1 (2 ^ 32) low (omega arith)

cycle_joins : Joins (IsFrom 1) (number_text 32) (AreSo IsShort) (λ n. flat_map (number_text 32)) IsCycle cycle_text (λ n es. es)
cycle_joins = counted_joins IsShort (number_text 32) (alone_short 32 low) 1 one_short (IsFrom 1) (number_text 32)

pub cycle_first : (bytes left : List ℕ) (r : Result (List ℕ) Stall) (why : Stall) → IsErrAnd r (λ e. e ≡ why)
    → Reads (IsFrom 1) (number_text 32) bytes left (Err why) → Reads IsCycle cycle_text bytes left r
cycle_first bytes left r why exit one = exits IsCycle cycle_text bytes left r why exit
    (read_first (IsFrom 1) (number_text 32) (AreSo IsShort) (λ n. flat_map (number_text 32)) IsCycle cycle_text (λ n es. es) cycle_joins bytes left why one)

pub cycle_second : (bytes mid left : List ℕ) (n : ℕ) (r : Result (List ℕ) Stall) → Reads (IsFrom 1) (number_text 32) bytes mid (Ok n)
    → Reads (AreSo IsShort n) (flat_map (number_text 32)) mid left r
    → Reads IsCycle cycle_text bytes left r
cycle_second bytes mid left n r one two = subst (Reads IsCycle cycle_text bytes left) (made_itself r)
    (read_second (IsFrom 1) (number_text 32) (AreSo IsShort) (λ k. flat_map (number_text 32)) IsCycle cycle_text (λ k es. es) cycle_joins alone_count
    bytes mid left n r one two)

wide : (n : ℕ) → n < 2 ^ 32 → n < 2 ^ 64
wide n h = omega (arith, h)

alone_cycle : AreAlone IsCycle cycle_text
alone_cycle = alone_both (IsFrom 1) (number_text 32) (AreSo IsShort) (λ n. flat_map (number_text 32)) IsCycle cycle_text (λ n es. es) cycle_joins alone_count
    (λ a b is also e. number_same 32 a b low (wide a is.1) (wide b also.1) e)
    (λ n is. alone_list IsShort (number_text 32) (alone_short 32 low) 1 one_short n)

-- ---- and then REF

line_joins : Joins IsCycle cycle_text (λ es. IsTree) (λ es. refutation_line) IsCycleEntry cycle_line (λ es r. (es, r))
line_joins = pair_joins IsCycle cycle_text IsTree refutation_line IsCycleEntry cycle_line (λ es r. (es, r)) (λ e. e.0) (λ e. e.1)
    (λ e. refl) (λ es r. refl) (λ es r h k. (h.0.0, (h.0.1, h.1), k)) (λ e is. (((is.0, is.1.0), is.1.1), is.2)) leaf leaf_tree

pub line_first : (bytes left : List ℕ) (r : Result (List ℕ × Refutation) Stall) (why : Stall) → IsErrAnd r (λ e. e ≡ why)
    → Reads IsCycle cycle_text bytes left (Err why) → Reads IsCycleEntry cycle_line bytes left r
line_first bytes left r why exit one = exits IsCycleEntry cycle_line bytes left r why exit
    (read_first IsCycle cycle_text (λ es. IsTree) (λ es. refutation_line) IsCycleEntry cycle_line (λ es q. (es, q)) line_joins bytes left why one)

line_second : (bytes mid left : List ℕ) (es : List ℕ) (r : Result Refutation Stall) → Reads IsCycle cycle_text bytes mid (Ok es)
    → Reads IsTree refutation_line mid left r
    → Reads IsCycleEntry cycle_line bytes left (made_of (λ q. (es, q)) r)
line_second bytes mid left es r one two =
    read_second IsCycle cycle_text (λ k. IsTree) (λ k. refutation_line) IsCycleEntry cycle_line (λ k q. (k, q)) line_joins alone_cycle bytes mid left
    es r one two

pub line_halts : (bytes mid left : List ℕ) (es : List ℕ) (r : Result (List ℕ × Refutation) Stall) (why : Stall) → IsErrAnd r (λ e. e ≡ why)
    → Reads IsCycle cycle_text bytes mid (Ok es) → Reads IsTree refutation_line mid left (Err why) → Reads IsCycleEntry cycle_line bytes left r
line_halts bytes mid left es r why exit one two = exits IsCycleEntry cycle_line bytes left r why exit (line_second bytes mid left es (Err why) one two)

pub one_edge : ℕ × Refutation
one_edge = (1, leaf)

pub one_edge_is : IsEdgeEntry one_edge
unfolding one_edge
one_edge_is = (one_short, leaf_tree)

pub one_cycle : List ℕ × Refutation
one_cycle = (1 ∷ [], leaf)

pub one_cycle_is : IsCycleEntry one_cycle
unfolding one_cycle
one_cycle_is = ((let s : 1 ≤ 1 = omega arith in s), ((let s : 1 < 2 ^ 32 = omega arith in s), (one_short, tt)), leaf_tree)

-- ---- a word, a count and as many lines

-- numbers that tell a count
pub record Counts (IsCount : ℕ → Type 0) : Type 0 where
  pub none : IsCount 0
  pub alone : AreAlone IsCount (number_text 10)
  pub same : (a b : ℕ) → IsCount a → IsCount b → number_text 10 a ≡ number_text 10 b → a ≡ b

pub short_counts : Counts IsShort
short_counts = record { none = (let s : 0 < 2 ^ 32 = omega arith in s); alone = alone_short 10 low_feed; same = short_same 10 low_feed }

pub long_counts : Counts IsLong
long_counts = record { none = (let s : 0 < 2 ^ 64 = omega arith in s); alone = alone_long 10 low_feed; same = long_same 10 low_feed }

module _ {A : Type 0} (word : List ℕ) (IsCount : ℕ → Type 0) (count : Counts IsCount) (Is : A → Type 0) (spell : A → List ℕ) (alone : AreAlone Is spell)
    (one : A) (one_is : Is one) where
  abbrev pub Are : List A → Type 0
  Are entries = AreCounted IsCount Is entries

  abbrev pub section_text : List A → List ℕ
  section_text entries = word ++ counted_text 10 spell entries

  none_are : Are []
  none_are = (count.none, tt)

  number_joins : Joins IsCount (number_text 10) (AreSo Is) (λ n. flat_map spell) Are (counted_text 10 spell) (λ n xs. xs)
  number_joins = counted_joins Is spell alone one one_is IsCount (number_text 10)

  heading_joins : Joins any (always word) (λ it. Are) (λ it. counted_text 10 spell) Are section_text (λ it xs. xs)
  heading_joins = word_joins word Are (counted_text 10 spell) [] none_are

  behind_word : (bytes mid left : List ℕ) (r : Result (List A) Stall) → Reads any (always word) bytes mid (Ok tt)
      → Reads Are (counted_text 10 spell) mid left r → Reads Are section_text bytes left r
  behind_word bytes mid left r h k = subst (Reads Are section_text bytes left) (made_itself r)
      (read_second any (always word) (λ it. Are) (λ it. counted_text 10 spell) Are section_text (λ it xs. xs) heading_joins
      (alone_word word) bytes mid left tt r h k)

  pub section_word : (bytes left : List ℕ) (why : Stall) → Reads any (always word) bytes left (Err why) → Reads Are section_text bytes left (Err why)
  section_word bytes left why r =
      read_first any (always word) (λ it. Are) (λ it. counted_text 10 spell) Are section_text (λ it xs. xs) heading_joins bytes left why r

  pub section_count : (bytes mid left : List ℕ) (why : Stall) → Reads any (always word) bytes mid (Ok tt)
      → Reads IsCount (number_text 10) mid left (Err why) → Reads Are section_text bytes left (Err why)
  section_count bytes mid left why h k = behind_word bytes mid left (Err why) h
      (read_first IsCount (number_text 10) (AreSo Is) (λ n. flat_map spell) Are (counted_text 10 spell) (λ n xs. xs) number_joins mid left why k)

  pub section_lines : (bytes mid behind left : List ℕ) (n : ℕ) (r : Result (List A) Stall) → Reads any (always word) bytes mid (Ok tt)
      → Reads IsCount (number_text 10) mid behind (Ok n)
      → Reads (AreSo Is n) (flat_map spell) behind left r → Reads Are section_text bytes left r
  section_lines bytes mid behind left n r h k l = behind_word bytes mid left r h (subst (Reads Are (counted_text 10 spell) mid left) (made_itself r)
      (read_second IsCount (number_text 10) (AreSo Is) (λ m. flat_map spell) Are (counted_text 10 spell) (λ m xs. xs) number_joins
      count.alone mid behind left n r k l))

  alone_counted : AreAlone Are (counted_text 10 spell)
  alone_counted = alone_both IsCount (number_text 10) (AreSo Is) (λ n. flat_map spell) Are (counted_text 10 spell) (λ n xs. xs) number_joins
      count.alone count.same (λ n is. alone_list Is spell alone one one_is n)

  pub alone_section : AreAlone Are section_text
  alone_section = alone_both any (always word) (λ it. Are) (λ it. counted_text 10 spell) Are section_text (λ it xs. xs) heading_joins
      (alone_word word) (λ it other is also e. refl) (λ it is. alone_counted)

-- ---- both

abbrev pub dead_text : List (ℕ × Refutation) → List ℕ
dead_text dead = heading ++ counted_text 10 edge_line dead

abbrev pub cycles_text : List (List ℕ × Refutation) → List ℕ
cycles_text cycles = between ++ counted_text 10 cycle_line cycles

no_cycles : AreCounted IsLong IsCycleEntry []
no_cycles = (long_counts.none, tt)

both_joins : Joins (AreFew IsEdgeEntry) dead_text (λ d. AreCounted IsLong IsCycleEntry) (λ d. cycles_text) IsSpeakable text_of
    (λ d c. record { dead = d; cycles = c })
both_joins = pair_joins (AreFew IsEdgeEntry) dead_text (AreCounted IsLong IsCycleEntry) cycles_text IsSpeakable text_of (λ d c. record { dead = d; cycles = c })
    (λ c. c.dead) (λ c. c.cycles)
    (λ c. refl) (λ d c. refl) (λ d c h k. (h, k)) (λ c is. is) [] no_cycles

alone_dead : AreAlone (AreFew IsEdgeEntry) dead_text
alone_dead = alone_section heading IsShort short_counts IsEdgeEntry edge_line alone_edge_line one_edge one_edge_is

pub both_first : (bytes left : List ℕ) (r : Result Certificate Stall) (why : Stall) → IsErrAnd r (λ e. e ≡ why)
    → Reads (AreFew IsEdgeEntry) dead_text bytes left (Err why) → Reads IsSpeakable text_of bytes left r
both_first bytes left r why exit one = exits IsSpeakable text_of bytes left r why exit
    (read_first (AreFew IsEdgeEntry) dead_text (λ d. AreCounted IsLong IsCycleEntry) (λ d. cycles_text) IsSpeakable text_of
    (λ d c. record { dead = d; cycles = c }) both_joins bytes left why one)

pub both_second : (bytes mid left : List ℕ) (dead : List (ℕ × Refutation)) (r : Result (List (List ℕ × Refutation)) Stall)
    → Reads (AreFew IsEdgeEntry) dead_text bytes mid (Ok dead)
    → Reads (AreCounted IsLong IsCycleEntry) cycles_text mid left r → Reads IsSpeakable text_of bytes left (made_of (λ c. record { dead = dead; cycles = c }) r)
both_second bytes mid left dead r one two =
    read_second (AreFew IsEdgeEntry) dead_text (λ d. AreCounted IsLong IsCycleEntry) (λ d. cycles_text) IsSpeakable text_of
    (λ d c. record { dead = d; cycles = c }) both_joins alone_dead bytes mid left dead r one two

pub both_halts : (bytes mid left : List ℕ) (dead : List (ℕ × Refutation)) (r : Result Certificate Stall) (why : Stall) → IsErrAnd r (λ e. e ≡ why)
    → Reads (AreFew IsEdgeEntry) dead_text bytes mid (Ok dead) → Reads (AreCounted IsLong IsCycleEntry) cycles_text mid left (Err why)
    → Reads IsSpeakable text_of bytes left r
both_halts bytes mid left dead r why exit one two = exits IsSpeakable text_of bytes left r why exit (both_second bytes mid left dead (Err why) one two)
