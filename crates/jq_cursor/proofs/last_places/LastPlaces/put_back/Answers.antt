use Rattle.jq_cursor.proofs.NameSteps.{put_known}
use Rattle.jq_cursor.proofs.last_places.LastPlaces.put_back.Goals as goal

pub returns : goal.returns
returns c = put_known (λ k. k.now) c.insert-put.result _ _ c.args.name _ c.insert-put.ensures.entries c.insert-put.ensures.absent c.requires
