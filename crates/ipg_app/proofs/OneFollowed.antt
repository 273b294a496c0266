-- What is said of an input is one, and ends as its parse does.
use Rattle.std.proofs.Common.{◌≡◌, ℕ, inl, inr, List, Result, Ok, Err, sym, ap, ◌∙◌}
use Rattle.ipg_core.specs.Grammar.{Grammar}
use Rattle.ipg_core.specs.Tree.{Tree}
use Rattle.ipg_core.specs.Run.{Stop, NoTree, OutOfRange, Deep}
use Rattle.ipg_mach_watch.specs.declared.findings.End.{End}
use Rattle.ipg_mach_watch.specs.declared.findings.End.TheVariants as end
use Rattle.ipg_mach_watch.specs.Laws.{OneFindings, EndIsMeant, IsEnd}
use Rattle.ipg_app_tree.specs.declared.show.Show.TheVariants.{Lines}
use Rattle.ipg_app_text.specs.Said.{Said}
use Rattle.ipg_app_grammar.specs.Followed.{found_said, status_of}
use Rattle.ipg_app_tree.specs.Parses.{ParseSays}
use Rattle.ipg_app.specs.Laws.{OneFollowed, FollowEndsAsParse}

pub followed_same : OneFindings → OneFollowed
followed_same one s core x y h k = h.is ∙ ap (found_said s core) (one core s.input h.found k.found h.are k.are) ∙ sym k.is

ends_so : (g : Grammar) (input : List ℕ) (e : End) (answer : Result Tree Stop) (own : Said) → IsEnd e answer → ParseSays Lines g input answer own
    → status_of e ≡ own.status
ends_so g input end.Tree (Ok tree) own is (inl (text, shows, said)) = sym (ap (λ (s : Said). s.status) said)
ends_so g input end.Tree (Ok tree) own is (inr (at, misses, said)) = absurd misses
ends_so g input end.Tree (Err NoTree) own is says = absurd is
ends_so g input end.Tree (Err OutOfRange) own is says = absurd is
ends_so g input end.Tree (Err Deep) own is says = absurd is
ends_so g input end.NoTree (Ok tree) own is says = absurd is
ends_so g input end.NoTree (Err NoTree) own is says = sym (ap (λ (s : Said). s.status) says)
ends_so g input end.NoTree (Err OutOfRange) own is says = absurd is
ends_so g input end.NoTree (Err Deep) own is says = absurd is
ends_so g input (end.Range call) (Ok tree) own is says = absurd is
ends_so g input (end.Range call) (Err NoTree) own is says = absurd is
ends_so g input (end.Range call) (Err OutOfRange) own is says = sym (ap (λ (s : Said). s.status) says)
ends_so g input (end.Range call) (Err Deep) own is says = absurd is

pub ends_as_parse : EndIsMeant → FollowEndsAsParse
ends_as_parse meant s core said own h k =
    ap (λ (x : Said). x.status) h.is
    ∙ ends_so core s.input h.found.end k.answer own (meant core s.input k.answer h.found k.means h.are) k.is
