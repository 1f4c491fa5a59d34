use Rattle.std.proofs.Common.{◌∙◌, subst, Contains}
use Rattle.lru.specs.LruCache.{LruCache}
use Rattle.lru.proofs.CallerLemmas.{Contains-promoted}
use Rattle.class_diagrams.specs.declared.memo.Task.{Task}
use Rattle.class_diagrams.specs.declared.refs.Target.{Target}
use Rattle.class_diagrams.proofs.MemoLemmas.{recalled, task_eq}
use Rattle.class_diagrams.proofs.memo.Memo.recall.Goals as goal

pub returns-clause-known : goal.returns-clause-known
returns-clause-known c = rw (← c.self.view_is) (recalled c.self.inside.results.entries c.args.task.now c.copied.result (c.copied.ensures ∙ c.get.ensures.value))

pub returns-clause-old : goal.returns-clause-old
returns-clause-old c = λ entry there.
    rw (← c.self.view_is) (Contains-promoted (task_eq c.args.task.now) c.self.inside.results.entries entry
    (subst (λ (m : LruCache Task Target). Contains m.entries entry) c.get.follows.holds-at-none there))
