-- What a certificate is worth: a grammar that it proves is accepted, and parsing by such a grammar ends.
use Rattle.ipg_core.specs.Grammar.{Grammar}
use Rattle.ipg_core.specs.Good.{Good}
use Rattle.ipg_core.specs.Total.{Total}
use Rattle.ipg_proof.specs.declared.certificate.Certificate.{Certificate}
use Rattle.ipg_proof.specs.Proves.{Proves, Accepts}

abbrev pub ProvesIsAccepted : Type 0
ProvesIsAccepted = (g : Grammar) (c : Certificate) → Proves g c → Accepts g

abbrev pub ProvesIsTotal : Type 0
ProvesIsTotal = (g : Grammar) (c : Certificate) → Good g → Proves g c → Total g

abbrev pub AcceptsIsTotal : Type 0
AcceptsIsTotal = (g : Grammar) → Good g → Accepts g → Total g
