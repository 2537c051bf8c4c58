-- 'Two components give 7, 7 and 2; three give 15, 35 and 14', computed from the definition list by list; counts outside are 1.
use mathlib.Core.Path.{◌≡◌, refl}
use Rattle.number.specs.Ans.{held, refused, ◌>>=◌, demand}
use Rattle.number.specs.Walk.{walk}
use Rattle.limits.specs.Limits.{count_within}
use Rattle.saftvrqmie_parameters.specs.Parameters.{pair_orders, order_row, order_walk}
use Rattle.order_counts.specs.Counts.{ticked, how_many, passes, meets, falling, order_counts}

pub count_2 : order_counts 2 ≡ held (record { passing = 7; meeting_4 = 7; meeting_5 = 2 })
unfolding order_counts falling ticked how_many passes meets count_within order_walk order_row walk pair_orders demand ◌>>=◌
count_2 = refl

pub count_3 : order_counts 3 ≡ held (record { passing = 15; meeting_4 = 35; meeting_5 = 14 })
unfolding order_counts falling ticked how_many passes meets count_within order_walk order_row walk pair_orders demand ◌>>=◌
count_3 = refl

pub count_0 : order_counts 0 ≡ refused 1
unfolding order_counts count_within demand ◌>>=◌
count_0 = refl

pub count_13 : order_counts 13 ≡ refused 1
unfolding order_counts count_within demand ◌>>=◌
count_13 = refl
