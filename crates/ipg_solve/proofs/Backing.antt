-- Going back along the cuts.
use Rattle.std.proofs.Common.{◌≡◌, ℕ, ◌+◌, true, false, cond, List, [], ◌∷◌, ◌++◌, length, set, reverse, sym, ◌∙◌, ap, subst, zero-add}
use Rattle.std.proofs.lemmas.List.{reverse-append, length-reverse, set-set, set-get_or}
use Rattle.ipg_cert.specs.Facts.{Fact}
use Rattle.ipg_solve.specs.declared.domain.Domain.{Domain}
use Rattle.ipg_solve.specs.declared.domain_cut.DomainCut.{DomainCut}
use Rattle.ipg_solve.specs.declared.halving.HalvingTurn.TheVariants.{More}
use Rattle.ipg_solve.specs.Domains.{no_domain}
use Rattle.ipg_solve.specs.Cuts.{side_of, above, domains_after, facts_after, AreCuts, is_below, waiting, work_in, work_waiting, Backs}

pub reverse_push : {X : Type 0} (xs : List X) (x : X) → reverse (xs ++ x ∷ []) ≡ x ∷ reverse xs
reverse_push xs x = reverse-append xs (x ∷ [])

-- what the last cut did is undone
undone : (first : ℕ) (start : List Domain) (cut : DomainCut) (cuts : List DomainCut) → AreCuts first start (cut ∷ cuts)
    → set (domains_after first start (cut ∷ cuts)) cut.var cut.old ≡ domains_after first start cuts
undone first start cut cuts are =
    let below = domains_after first start cuts in
    set-set below cut.var (side_of (first + length cuts) cut) cut.old ∙ ap (set below cut.var) (sym are.1) ∙ set-get_or below cut.var no_domain

-- the state of going back, with the cuts in order
pub record Backing (first : ℕ) (start domains : List Domain) (entry cuts : List DomainCut) : Type 0 where
  pub domains_are : domains ≡ domains_after first start (reverse cuts)
  pub cuts_are : AreCuts first start (reverse cuts)
  pub waits : (root : List Fact) → waiting root (reverse entry) ≡ waiting root (reverse cuts)
  pub work_is : work_waiting first start (reverse entry) ≡ work_waiting first start (reverse cuts)

pub taken_off : (first : ℕ) (start domains new : List Domain) (entry cuts rest : List DomainCut) (cut : DomainCut) → Backing first start domains entry cuts
    → cuts ≡ rest ++ cut ∷ [] → is_below cut.side ≡ false → new ≡ set domains cut.var cut.old → Backing first start new entry rest
taken_off first start domains new entry cuts rest cut b e upper is =
    let turned : reverse cuts ≡ cut ∷ reverse rest = ap reverse e ∙ reverse_push rest cut in
    let are : AreCuts first start (cut ∷ reverse rest) = subst (AreCuts first start) turned b.cuts_are in
    record {
      domains_are = is ∙ ap (λ ss. set ss cut.var cut.old) (b.domains_are ∙ ap (domains_after first start) turned) ∙ undone first start cut (reverse rest) are;
      cuts_are = are.4;
      waits = λ root. b.waits root ∙ ap (waiting root) turned
          ∙ ap (λ c. cond c (facts_after root (above cut ∷ reverse rest) ∷ waiting root (reverse rest)) (waiting root (reverse rest))) upper;
      work_is = b.work_is ∙ ap (work_waiting first start) turned
          ∙ ap (λ c. cond c (work_in (domains_after first start (above cut ∷ reverse rest))) 0 + work_waiting first start (reverse rest)) upper
          ∙ zero-add (work_waiting first start (reverse rest));
    }

pub turned_over : (first : ℕ) (start domains new : List Domain) (entry cuts rest last : List DomainCut) (cut : DomainCut)
    → Backing first start domains entry cuts
    → cuts ≡ rest ++ cut ∷ [] → is_below cut.side ≡ true → last ≡ rest ++ above cut ∷ []
    → new ≡ set domains cut.var (side_of (first + length rest) (above cut)) → Backs first start new (reverse entry) (reverse last) More
turned_over first start domains new entry cuts rest last cut b e lower ends is =
    let turned : reverse cuts ≡ cut ∷ reverse rest = ap reverse e ∙ reverse_push rest cut in
    let over : above cut ∷ reverse rest ≡ reverse last = sym (ap reverse ends ∙ reverse_push rest (above cut)) in
    let are : AreCuts first start (cut ∷ reverse rest) = subst (AreCuts first start) turned b.cuts_are in
    let below = domains_after first start (reverse rest) in
    subst (λ cs. Backs first start new (reverse entry) cs More) over (
      is
          ∙ ap (λ ss. set ss cut.var (side_of (first + length rest) (above cut))) (b.domains_are ∙ ap (domains_after first start) turned)
          ∙ set-set below cut.var (side_of (first + length (reverse rest)) cut) (side_of (first + length rest) (above cut))
          ∙ ap (λ n. set below cut.var (side_of (first + n) (above cut))) (sym (length-reverse rest)),
      (are.0, are.1, are.2, are.3, are.4),
      λ root. b.waits root ∙ ap (waiting root) turned
          ∙ ap (λ c. cond c (facts_after root (above cut ∷ reverse rest) ∷ waiting root (reverse rest)) (waiting root (reverse rest))) lower,
      b.work_is ∙ ap (work_waiting first start) turned
          ∙ ap (λ c. cond c (work_in (domains_after first start (above cut ∷ reverse rest))) 0 + work_waiting first start (reverse rest)) lower
          ∙ ap (λ n. work_in (domains_after first start (above cut ∷ reverse rest)) + n) (sym (zero-add (work_waiting first start (reverse rest)))),
    )
