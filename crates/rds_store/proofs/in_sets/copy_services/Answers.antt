use Rattle.std.proofs.Common.{◌≡◌, suc, ◌+◌, ◌<◌, ◌++◌, IfSome, length, take, drop, slice_get, sym, ap, subst, ◌∙◌}
use Rattle.std.proofs.Common.{arith}
use Rattle.std.proofs.lemmas.Bool.{false≢true}
use Rattle.std.specs.Map.{values_of}
use Rattle.indexmap.specs.IndexMap.{spare}
use Rattle.indexmap.specs.Layout.{set_value_at}
use Rattle.rds_store.proofs.Copying.{next_length, next_copied}
use Rattle.rds_store.proofs.in_sets.copy_services.Goals as goal
use Rattle.rds_store.proofs.in_sets.copy_services.Goals.{in-Some, in-None}

pub copy_service-requires : goal.copy_service-requires
copy_service-requires c =
    subst (λ es. IfSome (slice_get (values_of es) c.loop-place.place)
    (λ held. length held ≡ length c.in-Some.other.now)) (sym c.loop-place.invariant.entries)
    (next_length c.loop-place.place c.args.services.now.entries c.args.others.now.entries
    (c.in-Some.field-0-0.now, c.in-Some.other.now) c.requires (sym c.in-Some.ensures.entry))

pub loop-place-preserved : goal.loop-place-preserved
loop-place-preserved c =
    let next : suc c.loop-place.place ≡ c.loop-place.place + 1 = omega arith in
    record {
      entries = subst (λ n. c.match-get_index.services.entries ≡ take n c.args.others.now.entries
          ++ drop n c.args.services.now.entries) next (elim c.match-get_index.branch [
            | in-Some w ↦
                ap (λ m. m.entries) w.services-is ∙ w.copy_service.ensures.entries
                ∙ ap (λ es. set_value_at es c.loop-place.place w.in-Some.other.now) c.loop-place.invariant.entries
                ∙ next_copied c.loop-place.place c.args.services.now.entries c.args.others.now.entries
                (w.in-Some.field-0-0.now, w.in-Some.other.now) c.requires (sym w.in-Some.ensures.entry)
            | in-None w ↦ absurd (false≢true (w.in-None.ensures.found.1
                (subst (λ n. c.loop-place.place < n) c.len-place-end.ensures.len c.loop-place-test.true)))
          ]);
      spare_is = elim c.match-get_index.branch [
        | in-Some w ↦ ap spare w.services-is ∙ w.copy_service.ensures.spare ∙ c.loop-place.invariant.spare_is
        | in-None w ↦ absurd (false≢true (w.in-None.ensures.found.1
            (subst (λ n. c.loop-place.place < n) c.len-place-end.ensures.len c.loop-place-test.true)))
      ];
    }
