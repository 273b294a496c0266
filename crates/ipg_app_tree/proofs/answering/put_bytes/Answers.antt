use Rattle.std.proofs.Common.{length, refl, ap, subst, ◌∙◌, arith}
use Rattle.ipg_core.specs.Within.{TreeWithin}
use Rattle.ipg_app_tree.proofs.Bare.{misses, comes_back}
use Rattle.ipg_app_tree.proofs.Meant.{input_of, printable, puts_of}
use Rattle.ipg_app_tree.specs.declared.show.Show.TheVariants as show
use Rattle.ipg_app_tree.proofs.answering.put_bytes.Goals as goal

pub first_bare-requires : goal.first_bare-requires
first_bare-requires g c =
    let long = ap length c.deref.ensures.value ∙ c.in_ok-bare.ensures.long in
    let small = c.requires in omega (arith, long, small)

pub returns-in-Some : goal.returns-in-Some
returns-in-Some g c src grammar one h same holds =
    let input = c.args.input.now in
    let struck = c.deref.ensures.value ∙ c.in_ok-bare.ensures.bare src grammar one (printable c.args.parsed.now.parse src grammar one h) in
    let within = subst (λ bytes. TreeWithin (length bytes) one) same h.within in
    let is = input_of input c.requires c.type_inv.input in
    (one, refl, misses c.bare_is_not_put.ensures c.leaves_agree.ensures input one is.bytes holds within _ struck c.in-Some.at c.in-Some.ensures, refl, refl)

pub returns : goal.returns
returns g c src grammar one h same holds =
    let input = c.args.input.now in
    let struck = c.deref.ensures.value ∙ c.in_ok-bare.ensures.bare src grammar one (printable c.args.parsed.now.parse src grammar one h) in
    let within = subst (λ bytes. TreeWithin (length bytes) one) same h.within in
    let is = input_of input c.requires c.type_inv.input in
    let back = comes_back c.bare_is_not_put.ensures c.leaves_agree.ensures input one is.bytes holds within _ struck
    c.all_put_comes_back.ensures c.in-None.ensures in
    puts_of show.Bytes grammar input one input c.put_text.result _ _ _ _ back c.put_text.ensures
