-- Operations on two diagrams, as keys of the memo.
--     task_on o f g       the operation on the two, in this order
--     IsTaskOf o f g s    s is the operation on the two, the smaller number first
--     task_key s          s as one number: of `and` the smaller number is the upper half, of `or` the lower one
use Rattle.std.specs.Prelude.{◌≡◌, ℕ, ◌+◌, ◌*◌, ◌≤◌, ◌⊎◌}
use Rattle.class_diagrams.specs.declared.refs.Target.{Target}
use Rattle.class_diagrams.specs.declared.memo.Operation.{Operation}
use Rattle.class_diagrams.specs.declared.memo.Operation.TheVariants.{And, Or}
use Rattle.class_diagrams.specs.declared.memo.Task.{Task}
use Rattle.class_diagrams.specs.Numbers.{number_of}

abbrev pub task_on : Operation → Target → Target → Task
task_on o f g = record { operation = o; first = f; second = g }

pub record IsTaskOf (o : Operation) (f g : Target) (s : Task) : Type 0 where
  pub task : (s ≡ task_on o f g) ⊎ (s ≡ task_on o g f)
  pub order : number_of s.first ≤ number_of s.second

abbrev pub halves_key : Operation → ℕ → ℕ → ℕ
halves_key And small large = small * 4294967296 + large
halves_key Or small large = large * 4294967296 + small

abbrev pub task_key : Task → ℕ
task_key s = halves_key s.operation (number_of s.first) (number_of s.second)
