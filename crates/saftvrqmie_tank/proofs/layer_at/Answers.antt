-- `saftvrqmie_tank::layer_at` meets its contract. Assumes nothing.
use Rattle.saftvrqmie_tank.proofs.Ways.{row_small, row_within, long, layer_is}
use native.Mathlib.Omega.{arith}
use Rattle.saftvrqmie_tank.proofs.layer_at.Goals as goal

pub overflow_mul-from : goal.overflow_mul-from
overflow_mul-from c = let h = long c.args.n _ c.requires.2 in omega (arith, row_small c.args.n _ _ h.high c.requires.1 c.requires.0)

pub overflow_add-to : goal.overflow_add-to
overflow_add-to c = let h = long c.args.n _ c.requires.2 in omega (arith, row_small c.args.n _ _ h.high c.requires.1 c.requires.0)

pub bounds-q-l : goal.bounds-q-l
bounds-q-l c = let h = long c.args.n _ c.requires.2 in omega (arith, h.temperatures, c.requires.0)

pub bounds-q-l-2 : goal.bounds-q-l-2
bounds-q-l-2 c = let h = long c.args.n _ c.requires.2 in omega (arith, h.volumes, c.requires.0)

pub offset_bounds-q-from : goal.offset_bounds-q-from
offset_bounds-q-from c = let h = long c.args.n _ c.requires.2 in omega (arith, row_small c.args.n _ _ h.high c.requires.1 c.requires.0)

pub slice_bounds-result-end : goal.slice_bounds-result-end
slice_bounds-result-end c = let h = long c.args.n _ c.requires.2 in omega (arith, h.fractions, row_within c.args.n _ _ c.requires.0)

pub slice_bounds-result-end-2 : goal.slice_bounds-result-end-2
slice_bounds-result-end-2 c = let h = long c.args.n _ c.requires.2 in omega (arith, h.densities, row_within c.args.n _ _ c.requires.0)

pub returns : goal.returns
returns c = layer_is _ _ _
