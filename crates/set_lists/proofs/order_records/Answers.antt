-- `set_lists::order_records` meets its contract. Assumes nothing.
use lib.ListN.{get_or, replicate, length-replicate}
use mathlib.Core.Path.{◌≡◌, refl, ◌∙◌}
use borrow.Author.Rules.{rules}
use Rattle.sizes.specs.Sizes.{sheet}
use Rattle.saftvrqmie_parameters.specs.Parameters.{order_of, unused}
use Rattle.set_lists.specs.Sets.{orders_read}
use Rattle.set_lists.proofs.Copies.{filled_by}
use Rattle.set_lists.proofs.FromFn.{all_are}
use Rattle.set_lists.proofs.order_records.Goals as goal

pub returns : goal.returns
unfolding orders_read
returns c = filled_by (λ e. record { order = order_of (get_or c.args.l.now e 0) }) unused sheet _ (replicate sheet unused) c.from_fn.ensures.items.long (length-replicate sheet unused) (λ i h. all_are _ (λ f. f.0 ≡ c.args.l) (λ e. record { order = order_of (get_or c.args.l.now e 0) }) (λ f q j y k m. (search rules, m.met.1 ∙ k)) _ refl c.from_fn.result sheet c.from_fn.ensures.items i h unused)
