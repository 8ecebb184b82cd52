-- How the program states what own ship lacks.
use Rattle.std.specs.Prelude.{ℕ, List, codes}
use Rattle.plan_situations.specs.declared.readiness.Unready.{Unready}
use Rattle.plan_situations.specs.declared.readiness.Unready.TheVariants.{NoPoint, NoCourse, NoSpeed}

abbrev pub unready_text : Unready → List ℕ
unready_text (NoPoint time) = codes "no point"
unready_text (NoCourse time) = codes "no course"
unready_text (NoSpeed time) = codes "no speed"
