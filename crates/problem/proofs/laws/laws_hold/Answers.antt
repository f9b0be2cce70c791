use Rattle.std.proofs.Common.{refl}
use Rattle.problem.proofs.Accounted.{wholly_accounted}
use Rattle.problem.proofs.Exchange.{order_free}
use Rattle.problem.proofs.Firsts.{line_named, first_fault_decides}
use Rattle.problem.proofs.Sieved.{sieve_alone}
use Rattle.problem.proofs.laws.laws_hold.Goals as goal

pub returns : goal.returns
returns c = record { answer = refl; named = line_named; first = first_fault_decides; order = order_free; whole = wholly_accounted; sieve = sieve_alone }
