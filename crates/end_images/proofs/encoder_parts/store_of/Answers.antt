use Rattle.std.proofs.Common.{sym, subst, rules}
use Rattle.rds_store.specs.Value.{Store}
use Rattle.end_images.specs.Parsing.{Tells}
use Rattle.end_images.proofs.Telling.{parts_tell, are_bytes, station_opened}
use Rattle.end_images.proofs.encoder_parts.store_of.Goals as goal

pub returns-then-tell-clause-station : goal.returns-then-tell-clause-station
returns-then-tell-clause-station c =
    c.tell.ensures.station
    (station_opened c.are_stations.ensures c.args.sets c.args.services.now c.in-Ok.store
    (are_bytes c.args.services.now c.type_inv.services) c.in-Ok.ensures.allowed c.in-Ok.ensures.opening)

pub returns-then-tell-clause-complete : goal.returns-then-tell-clause-complete
returns-then-tell-clause-complete c = λ v is says.
    let messages = c.args.messages.now in
    let tells = parts_tell c.made_again.ensures c.args.sets c.args.services.now messages v is says in
    (c.tell.ensures.told v (subst (λ (s : Store). Tells s messages v) (sym c.in-Ok.ensures.opening) tells)).1

pub returns-else-tell-clause-complete : goal.returns-else-tell-clause-complete
returns-else-tell-clause-complete c = λ v is says.
    let messages = c.args.messages.now in
    let tells = parts_tell c.made_again.ensures c.args.sets c.args.services.now messages v is says in
    let yes = (c.tell.ensures.told v (subst (λ (s : Store). Tells s messages v) (sym c.in-Ok.ensures.opening)
    tells)).0 in
    absurd (search rules)
