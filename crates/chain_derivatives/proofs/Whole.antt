-- Slip 14 of document 02 holds, whole. Assumes nothing.
use Rattle.chain_derivatives.specs.Chain.{Slip14}
use Rattle.chain_derivatives.proofs.Chain.{chain_slopes}
use Rattle.chain_derivatives.proofs.ByHistory.{by_history}
use Rattle.chain_derivatives.proofs.Run.{own_run}
use Rattle.chain_derivatives.proofs.Example.{example}

pub slip_14 : Slip14
slip_14 = record { chain_slopes = chain_slopes; by_history = by_history; own_run = own_run; example = example }
