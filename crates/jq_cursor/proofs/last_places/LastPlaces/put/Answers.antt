use Rattle.jq_cursor.proofs.NameSteps.{put}
use Rattle.jq_cursor.proofs.last_places.LastPlaces.put.Goals as goal

pub returns-clause-put : goal.returns-clause-put
returns-clause-put c = put (λ k. k.now) _ _ c.args.name _ c.in_ok-insert.ensures.entries
