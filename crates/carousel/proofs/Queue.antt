-- Each group that waits goes out once, in order.
use Rattle.std.proofs.Common.{◌≡◌, zero, suc, Bool, true, false, List, [], ◌∷◌, ◌++◌, refl, ap, ◌∙◌, append_assoc}
use Rattle.std.proofs.Common.{if◌then◌else◌}
use Rattle.rds_store.specs.Value.{Store}
use Rattle.rds_store.specs.Step.{first_taken}
use Rattle.rds_store.specs.declared.group.Group.{Group as StoredGroup}
use Rattle.carousel.specs.Next.{is_queued, aired}
use Rattle.carousel.specs.Laws.{first_waiting, queued, store_after, EachQueuedGroupOnce}

-- one group
once : (v : Store) (b : Bool) (waiting : List StoredGroup) → waiting ≡ v.groups
    → (if b then first_waiting waiting else []) ++ (if b then (first_taken v waiting).0 else v).groups ≡ v.groups
once v true [] e = refl
once v true (g ∷ gs) e = e
once v false waiting e = refl

pub each_queued_group_once : EachQueuedGroupOnce
each_queued_group_once zero v c = refl
each_queued_group_once (suc n) v c =
    let out = if is_queued v c then first_waiting v.groups else [] in
    append_assoc out (queued n (aired v c).1 (aired v c).2) (store_after n (aired v c).1 (aired v c).2).groups
    ∙ ap (λ (gs : List StoredGroup). out ++ gs) (each_queued_group_once n (aired v c).1 (aired v c).2)
    ∙ once v (is_queued v c) v.groups refl
