-- What the domains rule out, by what the formula is.
use Rattle.std.proofs.Common.{◌≡◌, ℕ, ◌≤◌, Bool, true, pos, List, length, sym, ◌∙◌, ap, subst}
use Rattle.std.specs.Prelude.{int_lt}
use Rattle.ipg_lin.specs.Form.{Form, terms_width}
use Rattle.ipg_lin.specs.Formula.{width, width_step}
use Rattle.ipg_lin.specs.declared.formula.Formula.{Formula}
use Rattle.ipg_lin.specs.declared.formula.Formula.TheVariants as formula
use Rattle.ipg_lin.specs.Members.{folds-Atom}
use Rattle.ipg_solve.specs.declared.domain.Domain.{Domain}
use Rattle.ipg_solve.specs.Domains.{rules_out, rules_out_step, least_of}

pub rules_out-Atom : (f : Formula) (form : Form) (domains : List Domain) → f ≡ formula.Atom form → rules_out domains f ≡ true
    → int_lt (pos 0) (least_of domains form) ≡ true
rules_out-Atom f form domains is h = sym (ap (rules_out domains) is ∙ folds-Atom Bool (rules_out_step domains) form) ∙ h

pub width-Atom : (f : Formula) (form : Form) (domains : List Domain) → f ≡ formula.Atom form → width f ≤ length domains
    → terms_width form.terms ≤ length domains
width-Atom f form domains is h = subst (λ n. n ≤ length domains) (ap width is ∙ folds-Atom ℕ width_step form) h
