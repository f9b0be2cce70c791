use Rattle.std.proofs.Common.{◌≡◌, ℕ, Bool, ◌||◌, eqb, List, get_or, ap, ◌∙◌, arith, rules}
use Rattle.std.proofs.lemmas.List.{take_all}
use Rattle.domain.specs.Atoms.{has}
use Rattle.domain.specs.Model.{among}
use Rattle.domain.proofs.Gathered.{among_more}
use Rattle.domain.proofs.atoms.AtomSet.of.Goals as goal

pub loop-atom-preserved : goal.loop-atom-preserved
loop-atom-preserved c = λ a.
    let xs = c.args.atoms.now in
    let i = c.loop-atom.atom-index in
    let put : has c.insert.new.self a ≡ (has c.loop-atom.set a || eqb a (get_or xs i 0)) = let told = c.insert.ensures.membership a in search rules in
    put ∙ ap (λ (b : Bool). b || eqb a (get_or xs i 0)) (c.loop-atom.invariant a) ∙ among_more xs i a (omega arith)

pub returns : goal.returns
returns c = λ a.
    let xs = c.args.atoms.now in
    let i = c.loop-atom.atom-index in
    c.loop-atom.invariant a ∙ ap (λ (ys : List ℕ). among ys a) (take_all i xs (omega arith))
