use Rattle.std.proofs.Common.{◌≡◌, ◌-◌, Some, None, ap, sym, subst, ◌∙◌, get_or, take, drop, length}
use Rattle.std.specs.Option.{option_map}
use Rattle.uecp_elements.specs.declared.code.Code.TheVariants.{Applied}
use Rattle.rds_store.specs.Value.{Store}
use Rattle.end_images.specs.Parsing.{split_off, halves_of, Tells}
use Rattle.end_images.proofs.Telling.{slice_told, slice_short, slice_shorter, are_bytes, bytes_split}
use Rattle.end_images.proofs.Telling.{station_after}
use Rattle.end_images.proofs.encoder_parts.tell_first.Goals as goal

pub returns-in-None-clause-told : goal.returns-in-None-clause-told
returns-in-None-clause-told c = λ after tells.
    let bytes = c.args.messages.now in
    let split : split_off (get_or bytes 0 0) (take (length bytes - 1) (drop 1 bytes)) ≡ None =
    ap (λ n. split_off n (take (length bytes - 1) (drop 1 bytes))) (sym c.from.ensures) ∙ sym c.split_off.ensures
    ∙ ap (option_map halves_of) c.in-None.is in
    absurd (slice_short c.args.store.now after bytes c.in-len1-up.len_at_least tells split)

pub returns-in-Applied-clause-told : goal.returns-in-Applied-clause-told
returns-in-Applied-clause-told c = λ after tells.
    let bytes = c.args.messages.now in
    let split : split_off (get_or bytes 0 0) (take (length bytes - 1) (drop 1 bytes))
    ≡ Some (c.in-Some.message.now, c.in-Some.more.now) =
    ap (λ n. split_off n (take (length bytes - 1) (drop 1 bytes))) (sym c.from.ensures) ∙ sym c.split_off.ensures
    ∙ ap (option_map halves_of) c.in-Some.is in
    let first = slice_told c.args.store.now after bytes c.in-Some.message.now c.in-Some.more.now
    c.in-len1-up.len_at_least
    tells split in
    subst (λ (v : Store). Tells v c.in-Some.more.now after) (sym (ap (λ p. p.0) c.apply.ensures)) first.rest

pub returns-in-Applied-clause-shorter : goal.returns-in-Applied-clause-shorter
returns-in-Applied-clause-shorter c =
    let bytes = c.args.messages.now in
    let split : split_off (get_or bytes 0 0) (take (length bytes - 1) (drop 1 bytes))
    ≡ Some (c.in-Some.message.now, c.in-Some.more.now) =
    ap (λ n. split_off n (take (length bytes - 1) (drop 1 bytes))) (sym c.from.ensures) ∙ sym c.split_off.ensures
    ∙ ap (option_map halves_of) c.in-Some.is in
    slice_shorter bytes c.in-Some.message.now c.in-Some.more.now c.in-len1-up.len_at_least split

pub returns-in_default-apply-clause-told : goal.returns-in_default-apply-clause-told
returns-in_default-apply-clause-told c = λ after tells.
    let bytes = c.args.messages.now in
    let split : split_off (get_or bytes 0 0) (take (length bytes - 1) (drop 1 bytes))
    ≡ Some (c.in-Some.message.now, c.in-Some.more.now) =
    ap (λ n. split_off n (take (length bytes - 1) (drop 1 bytes))) (sym c.from.ensures) ∙ sym c.split_off.ensures
    ∙ ap (option_map halves_of) c.in-Some.is in
    let first = slice_told c.args.store.now after bytes c.in-Some.message.now c.in-Some.more.now
    c.in-len1-up.len_at_least tells split in
    let applied : c.apply.result ≡ Applied = ap (λ p. p.1) c.apply.ensures ∙ first.applied in
    absurd (c.in_default-apply.not-Applied applied)

pub returns-in_default-apply-clause-station : goal.returns-in_default-apply-clause-station
returns-in_default-apply-clause-station c =
    let bytes = c.args.messages.now in
    let split = sym c.split_off.ensures ∙ ap (option_map halves_of) c.in-Some.is in
    station_after c.are_stations.ensures c.messages_keep_sets_and_services.ensures c.args.store.now c.apply.new.self
    c.in-Some.message.now (bytes_split c.from.result (length bytes - 1) 1 bytes c.in-Some.message.now c.in-Some.more.now
    (are_bytes bytes c.type_inv.messages) split) (ap (λ p. p.0) c.apply.ensures)

pub returns-in-Applied-clause-station : goal.returns-in-Applied-clause-station
returns-in-Applied-clause-station c =
    let bytes = c.args.messages.now in
    let split = sym c.split_off.ensures ∙ ap (option_map halves_of) c.in-Some.is in
    station_after c.are_stations.ensures c.messages_keep_sets_and_services.ensures c.args.store.now c.apply.new.self
    c.in-Some.message.now (bytes_split c.from.result (length bytes - 1) 1 bytes c.in-Some.message.now c.in-Some.more.now
    (are_bytes bytes c.type_inv.messages) split) (ap (λ p. p.0) c.apply.ensures)
