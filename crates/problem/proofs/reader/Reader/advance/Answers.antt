use Rattle.std.proofs.Common.{◌≡◌, ◌<◌, length, sym, ap, ◌∙◌, rules}
use Rattle.problem.specs.Reader.{step, step_by}
use Rattle.problem.specs.declared.fault.Table.TheVariants.{Atoms, Actions, Features, Rules}
use Rattle.problem.specs.declared.reader.Wanted.TheVariants.{Values}
use Rattle.problem.proofs.Moving.{opening, closing, filling, moves_so}
use Rattle.problem.proofs.reader.Reader.advance.Goals as goal

pub returns-in-TheNames-default : goal.returns-in-TheNames-default
returns-in-TheNames-default c =
    moves_so _ _ (opening _ _ _ _ (sym (ap (λ r. r.wanted) c.self.view_is) ∙ c.in-TheNames-default.is-0)) c.open.ensures

pub returns-in-Values-empty : goal.returns-in-Values-empty
returns-in-Values-empty c =
    let none : length c.args.line.now.bytes.now < 1 = search rules in
    moves_so _ _ (closing _ _ _ _ (sym (ap (λ r. r.wanted) c.self.view_is) ∙ c.in-Values-empty.is-0) none) c.close.ensures

pub returns-in-Values-Atoms-default : goal.returns-in-Values-Atoms-default
returns-in-Values-Atoms-default c =
    let table : c.args.self.now.wanted ≡ Values Atoms = let is = ap (λ r. r.wanted) c.self.view_is in cc in
    let some : 0 < length c.args.line.now.bytes.now = search rules in
    moves_so _ _ (filling _ Atoms _ _ table some) c.add_atom.ensures

pub returns-in-Values-Actions-default : goal.returns-in-Values-Actions-default
returns-in-Values-Actions-default c =
    let table : c.args.self.now.wanted ≡ Values Actions = let is = ap (λ r. r.wanted) c.self.view_is in cc in
    let some : 0 < length c.args.line.now.bytes.now = search rules in
    moves_so _ _ (filling _ Actions _ _ table some) c.add_action.ensures

pub returns-in-Values-Features-default : goal.returns-in-Values-Features-default
returns-in-Values-Features-default c =
    let table : c.args.self.now.wanted ≡ Values Features = let is = ap (λ r. r.wanted) c.self.view_is in cc in
    let some : 0 < length c.args.line.now.bytes.now = search rules in
    moves_so _ _ (filling _ Features _ _ table some) c.add_feature.ensures

pub returns-in-Values-Rules-default : goal.returns-in-Values-Rules-default
returns-in-Values-Rules-default c =
    let table : c.args.self.now.wanted ≡ Values Rules = let is = ap (λ r. r.wanted) c.self.view_is in cc in
    let some : 0 < length c.args.line.now.bytes.now = search rules in
    moves_so _ _ (filling _ Rules _ _ table some) c.add_rule.ensures

pub returns-in-Nothing-default : goal.returns-in-Nothing-default
unfolding step
returns-in-Nothing-default c = ap (λ w. step_by w c.args.self.now c.args.line.now.number c.args.line.now.bytes.now) (sym (ap (λ r. r.wanted) c.self.view_is) ∙ c.in-Nothing-default.is-0)
