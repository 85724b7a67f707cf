use Rattle.std.proofs.Common.{◌≡◌, Bool, false, true, ◌&&◌, not, refl, sym, ap, subst, ◌∙◌, IfSome}
use Rattle.std.proofs.lemmas.Bool.{false≢true}
use Rattle.uecp_elements.specs.View.{element_of}
use Rattle.uecp_elements.specs.declared.code.Code.TheVariants.{Applied}
use Rattle.rds_store.specs.Names.{names_set}
use Rattle.rds_store.specs.Content.{taken}
use Rattle.rds_store.specs.Refusals.{adds_text, has_full_set}
use Rattle.rds_store.specs.Put.{change_where}
use Rattle.rds_store.specs.Kept.{at_service}
use Rattle.rds_store.proofs.Addressed.{put-changed}
use Rattle.rds_store.proofs.data_sets.DataSets.put_at.Goals as goal

no_refusal : (full : Bool) → true ≡ not full → full ≡ false
no_refusal false e = refl
no_refusal true e = absurd (false≢true (sym e))

pub returns-then-put_into : goal.returns-then-put_into
returns-then-put_into c =
    let e = element_of c.args.element.now in
    let v = c.args.self.now in
    let named = c.in-Some.ensures in
    let room : (adds_text e && has_full_set v c.args.dsn named.0) ≡ false =
    no_refusal _ (sym c.if-put_into.true ∙ subst (λ o. IfSome o (λ number. c.put_into.result
    ≡ not (adds_text e && has_full_set v c.args.dsn number))) named.2 c.put_into.ensures.room) in
    ap (λ w. (w, Applied)) (subst (λ o. IfSome o (λ number. c.put_into.result ≡ true → c.put_into.new.self ≡ record v {
      places = change_where (at_service (names_set c.args.dsn v.current) number) (taken e) v.places;
    })) named.2 c.put_into.ensures.taken c.if-put_into.true)
    ∙ sym (put-changed v e c.args.dsn c.args.psn c.requires.addressed named.0
    (sym c.is_dsn.ensures ∙ c.if-not-is_dsn.false) named.1
    (sym c.is_out_of_range.ensures ∙ c.if-is_out_of_range.false) room)
