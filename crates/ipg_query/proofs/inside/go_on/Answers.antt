use Rattle.std.proofs.Common.{◌≡◌, ◌+◌, ◌∷◌, refl, sym, ap, ◌∙◌, subst, add-one, length}
use Rattle.ipg_tree_walk.specs.Falls.{falls}
use Rattle.ipg_query.specs.Inside.{lot_of, left_of, Leave}
use Rattle.ipg_query.proofs.Walking.{goes_on}
use Rattle.ipg_query.proofs.inside.go_on.Goals as goal

pub returns-clause-ends : goal.returns-clause-ends
returns-clause-ends g c level around is rows =
    let rest = lot_of c.args.rest in
    let one : left_of level ≡ left_of rest + 1 = ap length rows ∙ sym (add-one (length rest.rows)) in
    falls left_of c.args.walk.now.room around level rest one c.replace.new.self.room c.enter.new.walk.room c.replace.new.self.levels
    c.enter.new.walk.levels c.replace.ensures.room c.enter.ensures.room (c.replace.ensures.replaced level around is) c.enter.ensures.full c.enter.ensures.ends

pub returns-clause-visited : goal.returns-clause-visited
returns-clause-visited g c src level around one more is whole leave =
    let walk = c.args.walk.now in
    goes_on src c.args.p.now.parse.store walk.room around (lot_of c.args.rest) c.args.kid one more c.replace.new.self c.enter.new.walk _
    (c.len-depth.ensures.value ∙ ap length is ∙ sym (add-one (length around))) refl refl
    c.replace.ensures.room (c.replace.ensures.replaced level around is) (c.enter.ensures.entered src)
    (subst (λ l. Leave src c.args.p.now.parse.store walk.room (l ∷ around) (one ∷ more)) whole leave)
