-- Document 01's number or values of each case of the answer of one evaluation.
use Rattle.std.specs.Prelude.{Float, Err, Ok, Result}
use Rattle.number.specs.declared.refusal.Refusal.{Refusal}
use Rattle.number.specs.Answer.{code}
use Rattle.number.specs.Ans.{Ans, held, refused}
use Rattle.saftvrmie_diameter.specs.Diameter.{Halley}

abbrev pub halley_answer : Result (Float × Float) Refusal → Ans (Halley Float)
halley_answer (Ok (f, dr)) = held (record { f = f; dr = dr })
halley_answer (Err r) = refused (code r)
