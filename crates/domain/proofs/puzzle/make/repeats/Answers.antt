use Rattle.std.proofs.Common.{eqb, take}
use Rattle.std.proofs.lemmas.List.Elements.{contains_decides}
use Rattle.std.proofs.lemmas.Bool.Decides.{same_from_decides, Decides-eqb}
use Rattle.domain.specs.Model.{among}
use Rattle.domain.specs.Square.{piece_at}
use Rattle.domain.proofs.Among.{decides_among}
use Rattle.domain.proofs.puzzle.make.repeats.Goals as goal

pub returns : goal.returns
returns c =
    let cells = c.args.pieces.now in
    let i = c.args.cell in
    let x = piece_at cells i in
    let front = take i cells in
    same_from_decides c.contains.result (among front x) (contains_decides eqb Decides-eqb front x c.contains.result c.contains.ensures.cases)
    (decides_among front x)
