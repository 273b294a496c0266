-- A turn of the halving.
use Rattle.std.proofs.Common.{◌≡◌, ℕ, ◌+◌, ◌<◌, ◌&&◌, List, [], ◌∷◌, ◌++◌, length, set, reverse, refl, sym, ◌∙◌, ap, subst, arith, append_assoc}
use Rattle.std.proofs.lemmas.List.{length-reverse, append-nil}
use borrow.Author.Tests.{lt-ltb}
use Rattle.ipg_lin.specs.declared.formula.Formula.{Formula}
use Rattle.ipg_lin.specs.declared.formula.Boxed.{Boxed}
use Rattle.ipg_cert.specs.Checks.{refutes, root_facts}
use Rattle.ipg_cert.specs.declared.refutation.Step.{Step}
use Rattle.ipg_cert.specs.declared.refutation.Step.TheVariants.{Split}
use Rattle.std.specs.Prelude.{◌≤ℤ◌, ◌<ℤ◌}
use Rattle.ipg_solve.specs.declared.domain.Domain.{Domain}
use Rattle.ipg_solve.specs.declared.domain_cut.DomainCut.{DomainCut}
use Rattle.ipg_solve.specs.declared.halving.HalvingTurn.{HalvingTurn}
use Rattle.ipg_solve.specs.declared.halving.HalvingTurn.TheVariants.{More, Solved, Refuted}
use Rattle.ipg_solve.specs.Domains.{domain_at}
use Rattle.ipg_solve.specs.Closes.{AreDomains, ClosesFormula, CloseAll}
use Rattle.ipg_solve.specs.Cuts.{start_domains, side_of, lower, domains_after, facts_after, waiting, work, Leads, Halved, IsCut, Backs, Turns}
use Rattle.ipg_solve.proofs.Backing.{reverse_push}
use Rattle.ipg_solve.proofs.Parts.{domains_hold, start_holds, formula_stands, facts_length, length_after, start_length, cut_falls, work_some}

-- before the first turn
pub begun : (f : Formula) (box : Boxed) (first : ℕ) (domains : List Domain) (cuts : List DomainCut) (steps : List Step) → first ≡ length (root_facts f box)
    → domains ≡ start_domains 0 box.bounds → cuts ≡ [] → steps ≡ [] → Halved f box first domains (reverse cuts) steps
begun f box first domains cuts steps e is none empty =
    subst (λ cs. Halved f box first domains (reverse cs) steps) (sym none)
    (record { first_is = e; domains_are = is; cuts_are = tt; leads = λ more. ap (λ s. refutes (length box.bounds) (s ++ more) (root_facts f box ∷ [])) empty })

-- the part at hand is refuted, and those that wait are left
closed_leads : (f : Formula) (box : Boxed) (first n : ℕ) (domains : List Domain) (cuts : List DomainCut) (old new : List Step)
    → Halved f box first domains cuts old → n ≡ length cuts
    → ClosesFormula domains (length box.bounds + length box.bounds) (first + n) f old new
    → Leads (length box.bounds) (root_facts f box) new (waiting (root_facts f box) cuts)
closed_leads f box first n domains cuts old new h e closes more =
    let vars = length box.bounds in
    let root = root_facts f box in
    let hold : CloseAll vars closes.0 (facts_after root cuts ∷ []) =
    closes.2 vars (facts_after root cuts)
    (subst (AreDomains (facts_after root cuts)) (sym h.domains_are)
    (domains_hold first root (start_domains 0 box.bounds) cuts h.first_is (start_holds f box) h.cuts_are))
    (formula_stands f box cuts (vars + vars) refl) (omega (arith, facts_length root cuts, h.first_is)) in
    ap (λ s. refutes vars (s ++ more) (root ∷ [])) closes.1
    ∙ ap (λ s. refutes vars s (root ∷ [])) (append_assoc old closes.0 more)
    ∙ h.leads (closes.0 ++ more)
    ∙ hold more (waiting root cuts)

-- the part at hand was refuted, and the next one is taken
pub back_turns : (f : Formula) (box : Boxed) (first n : ℕ) (domains next : List Domain) (cuts rest : List DomainCut) (old new : List Step)
    → Halved f box first domains (reverse cuts) old → n ≡ length cuts
    → ClosesFormula domains (length box.bounds + length box.bounds) (first + n) f old new
    → Backs first (start_domains 0 box.bounds) next (reverse cuts) (reverse rest) More → Turns f box first next cuts rest new More
back_turns f box first n domains next cuts rest old new h e closes backs =
    let root = root_facts f box in
    let leads = closed_leads f box first n domains (reverse cuts) old new h (e ∙ sym (length-reverse cuts)) closes in (
      record {
        first_is = h.first_is;
        domains_are = backs.0;
        cuts_are = backs.1;
        leads = λ more. leads more ∙ ap (refutes (length box.bounds) more)
            (backs.2 root);
      },
      omega (arith, backs.3, work_some (domains_after first (start_domains 0 box.bounds) (reverse cuts))),
    )

-- every part was refuted
pub refuted_turns : (f : Formula) (box : Boxed) (first n : ℕ) (domains next : List Domain) (cuts rest : List DomainCut) (old new : List Step)
    → Halved f box first domains (reverse cuts) old → n ≡ length cuts
    → ClosesFormula domains (length box.bounds + length box.bounds) (first + n) f old new
    → Backs first (start_domains 0 box.bounds) next (reverse cuts) (reverse rest) Refuted → Turns f box first next cuts rest new Refuted
refuted_turns f box first n domains next cuts rest old new h e closes backs =
    let root = root_facts f box in
    let vars = length box.bounds in
    ap (λ s. refutes vars s (root ∷ [])) (sym (append-nil new))
    ∙ closed_leads f box first n domains (reverse cuts) old new h (e ∙ sym (length-reverse cuts)) closes []
    ∙ ap (refutes vars []) (backs root)

-- either of them
pub backs_turn : (f : Formula) (box : Boxed) (first n : ℕ) (domains next : List Domain) (cuts rest : List DomainCut) (old new : List Step)
    → Halved f box first domains (reverse cuts) old → n ≡ length cuts
    → ClosesFormula domains (length box.bounds + length box.bounds) (first + n) f old new
    → (turn : HalvingTurn) → Backs first (start_domains 0 box.bounds) next (reverse cuts) (reverse rest) turn → Turns f box first next cuts rest new turn
backs_turn f box first n domains next cuts rest old new h e closes More backs = back_turns f box first n domains next cuts rest old new h e closes backs
backs_turn f box first n domains next cuts rest old new h e closes Solved none = absurd none
backs_turn f box first n domains next cuts rest old new h e closes Refuted backs = refuted_turns f box first n domains next cuts rest old new h e closes backs

-- the part at hand was cut
pub cut_turns : (f : Formula) (box : Boxed) (first x : ℕ) (domains next : List Domain) (cuts more : List DomainCut) (old new : List Step)
    → Halved f box first domains (reverse cuts) old → x < length domains → IsCut first x domains next cuts more old new
    → Turns f box first next cuts more new More
cut_turns f box first x domains next cuts more old new h within cut =
    let root = root_facts f box in
    let vars = length box.bounds in
    let start = start_domains 0 box.bounds in
    let low = lower x cut.0 (domain_at domains x) in
    let turned : reverse more ≡ low ∷ reverse cuts = ap reverse cut.3 ∙ reverse_push cuts low in
    let inside : x < length start = omega (arith, ap length h.domains_are, length_after first start (reverse cuts)) in
    let same : domain_at (domains_after first start (reverse cuts)) x ≡ domain_at domains x = ap (λ ss. domain_at ss x) (sym h.domains_are) in
    let counted : x < vars = omega (arith, start_length 0 box.bounds) in
    let falls : work first start (low ∷ reverse cuts) < work first start (reverse cuts) =
    subst (λ domain. work first start (lower x cut.0 domain ∷ reverse cuts) < work first start (reverse cuts)) same
    (cut_falls first start (reverse cuts) x cut.0 inside (subst (λ s. s.low ≤ℤ cut.0) (sym same) cut.1) (subst (λ s. cut.0 <ℤ s.high) (sym same) cut.2)) in
    subst (λ cs. Halved f box first next cs new × (work first start cs < work first start (reverse cuts))) (sym turned) (
      record {
        first_is = h.first_is;
        domains_are = cut.4 ∙ ap (λ n. set domains x (side_of (first + n) low)) (sym (length-reverse cuts))
            ∙ ap (λ ss. set ss x (side_of (first + length (reverse cuts)) low)) h.domains_are;
        cuts_are = (inside, same, cut.1, cut.2, h.cuts_are);
        leads = λ steps.
            ap (λ s. refutes vars (s ++ steps) (root ∷ [])) cut.5
            ∙ ap (λ s. refutes vars s (root ∷ [])) (append_assoc old (Split x cut.0 ∷ []) steps)
            ∙ h.leads (Split x cut.0 ∷ steps)
            ∙ ap (λ b. b && refutes vars steps (facts_after root (low ∷ reverse cuts) ∷ waiting root (low ∷ reverse cuts))) (lt-ltb x vars counted);
      },
      falls,
    )
