use Rattle.std.proofs.Common.{refl}
use Rattle.ipg_app_help.proofs.text.Goals as goal

-- each text is its lines, byte for byte
pub returns-in-Commands : goal.returns-in-Commands
returns-in-Commands c = rw c.in-Commands.is refl

pub returns-in-Parse : goal.returns-in-Parse
returns-in-Parse c = rw c.in-Parse.is refl

pub returns-in-View : goal.returns-in-View
returns-in-View c = rw c.in-View.is refl

pub returns-in-Json : goal.returns-in-Json
returns-in-Json c = rw c.in-Json.is refl

pub returns-in-Query : goal.returns-in-Query
returns-in-Query c = rw c.in-Query.is refl

pub returns-in-Check : goal.returns-in-Check
returns-in-Check c = rw c.in-Check.is refl

pub returns-in-Explain : goal.returns-in-Explain
returns-in-Explain c = rw c.in-Explain.is refl

pub returns-in-Fmt : goal.returns-in-Fmt
returns-in-Fmt c = rw c.in-Fmt.is refl

pub returns-in-Cert : goal.returns-in-Cert
returns-in-Cert c = rw c.in-Cert.is refl

pub returns-in-Verify : goal.returns-in-Verify
returns-in-Verify c = rw c.in-Verify.is refl

pub returns-in-Table : goal.returns-in-Table
returns-in-Table c = rw c.in-Table.is refl

pub returns-in-Load : goal.returns-in-Load
returns-in-Load c = rw c.in-Load.is refl

pub returns-in-Cover : goal.returns-in-Cover
returns-in-Cover c = rw c.in-Cover.is refl

pub returns-in-Rebuild : goal.returns-in-Rebuild
returns-in-Rebuild c = rw c.in-Rebuild.is refl

pub returns-in-Edit : goal.returns-in-Edit
returns-in-Edit c = rw c.in-Edit.is refl

pub returns-in-Trial : goal.returns-in-Trial
returns-in-Trial c = rw c.in-Trial.is refl

pub returns-in-Help : goal.returns-in-Help
returns-in-Help c = rw c.in-Help.is refl

pub returns-in-Version : goal.returns-in-Version
returns-in-Version c = rw c.in-Version.is refl
