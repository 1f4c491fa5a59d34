use Rattle.std.proofs.Common.{◌≡◌, []}
use Rattle.code_tokens.specs.Members.{put_all}
use Rattle.code_tokens.proofs.members.put_all.Given as goal

abbrev pub invariant-loop-token : goal.invariant-loop-token
invariant-loop-token l = put_all l.text l.done.items l.token-iterator.rest.items ≡ put_all l.text [] l.fn.tokens.items
