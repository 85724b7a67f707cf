-- One wait of the edge of the air.
use Rattle.std.proofs.Common.{◌≡◌, ◌+◌, ℕ, Bool, true, false, Option, Some, None, MatchOption, refl, sym, ap, subst}
use Rattle.std.proofs.Common.{inl, inr}
use Rattle.std.proofs.Common.{◌&&◌}
use Rattle.std.proofs.lemmas.Bool.{false≢true}
use Rattle.std.proofs.Math.Numerals.{add-one}
use Rattle.air_edges.specs.declared.sockets.Came.{Came}
use Rattle.air_edges.specs.Pace as pace
use Rattle.air_edges.specs.Edge.{Edge, IsEarly, TellsOut, Accepts, Looks, LookBrings, LookPasses, Brings, Passes}
use Rattle.air_edges.specs.Edge.{PassesFor}
use Rattle.air_edges.specs.Edge.{wait_limit, is_silent}
use Rattle.device_serving.specs.declared.air.moments.Moment.{Moment}
use Rattle.device_serving.specs.declared.air.moments.Moment.TheVariants.{Readable, Due, Over}

both : (a b : Bool) → (a && b) ≡ true → (a ≡ true) × (b ≡ true)
both true b is = (refl, is)
both false b is = absurd (false≢true is)

-- one was told of, and none was there
pub accepts_none : {S H : Type 0} (joins : S → Option (H × ℕ) → S → Type 0) (came : Bool) (e0 e e' : Edge S H)
    (sockets : S) → came ≡ true → e0 ≡ e → joins e0.sockets None sockets → e' ≡ record e0 { sockets = sockets }
    → Accepts joins came e e'
accepts_none {S} {H} joins came e0 e e' sockets is same none after =
    subst (λ (b : Bool). Accepts joins b e e') (sym is)
    (subst (λ (x : Edge S H). Accepts joins true x e') same (sockets, inl (none, after)))

module _ {S H I O : Type 0} (reads : S → ℕ → S → Type 0) (waits : S → Bool → ℕ → Option Came → S → Type 0)
    (opens : S → Option (I × O) → S → Type 0) (joins : S → Option (H × ℕ) → S → Type 0) where
  -- by what the calls of a look said
  pub looks : (is_open : Bool) (now limit : ℕ) (e0 e told y : Edge S H) (came : Came) (waited : S) → e0 ≡ e
      → IsEarly is_open e now → limit ≡ wait_limit is_open e0.idle e0.heard e0.next now
      → waits e0.sockets is_open limit (Some came) waited → TellsOut came.is_out (record e0 { sockets = waited }) told
      → Accepts joins came.air told y → Looks reads waits opens joins is_open e now came y
  looks is_open now limit e0 e told y came waited is early limit_is waited_so tells accepted =
      let from : Edge S H → Type 0 = λ x. IsEarly is_open x now → Looks reads waits opens joins is_open x now came y in
      subst from is (λ early0. record {
        waited = waited;
        told = told;
        early = early0;
        waits_so = subst (λ (n : ℕ). waits e0.sockets is_open n (Some came) waited) limit_is waited_so;
        tells = tells;
        accepts = accepted;
      }) early

  -- nothing more can be waited for
  pub looks_over : (is_open : Bool) (now limit : ℕ) (e0 e : Edge S H) (waited : S) → e0 ≡ e → IsEarly is_open e now
      → limit ≡ wait_limit is_open e0.idle e0.heard e0.next now → waits e0.sockets is_open limit None waited
      → LookBrings reads waits opens joins is_open now e Over (record e0 { sockets = waited })
  looks_over is_open now limit e0 e waited is early limit_is waited_so =
      let from : Edge S H → Type 0 = λ x. IsEarly is_open x now
      → LookBrings reads waits opens joins is_open now x Over (record e0 { sockets = waited }) in
      subst from is (λ early0. (
        early0,
        subst (λ (n : ℕ). waits e0.sockets is_open n None waited) limit_is waited_so,
        refl,
      )) early

  -- a group is due
  pub due_now : (is_open : Bool) (now next : ℕ) (e0 e : Edge S H) (read : S) → e0 ≡ e → reads e0.sockets now read
      → pace.is_due e0.next now ≡ true → next ≡ pace.after e0.next now
      → Brings reads waits opens joins is_open e Due (record e0 { sockets = read; next = next })
  due_now is_open now next e0 e read is reads_it due next_is =
      let e' : Edge S H = record e0 { sockets = read; next = next } in
      subst (λ x. Brings reads waits opens joins is_open x Due e') is (
        now,
        read,
        reads_it,
        inl (
          due,
          ap (λ (n : ℕ). let x : Edge S H = record e0 { sockets = read; next = n } in x)
              next_is,
        ),
      )

  -- the connection was silent for too long
  pub silent_now : (is_open : Bool) (now : ℕ) (e0 e : Edge S H) (read : S) → e0 ≡ e → reads e0.sockets now read
      → pace.is_due e0.next now ≡ false → (is_open && is_silent e0.idle e0.heard now) ≡ true
      → Brings reads waits opens joins is_open e Readable (record e0 { sockets = read; heard = now })
  silent_now is_open now e0 e read is reads_it early silent =
      let two = both is_open (is_silent e0.idle e0.heard now) silent in
      let e' : Edge S H = record e0 { sockets = read; heard = now } in
      subst (λ x. Brings reads waits opens joins is_open x Readable e') is
      (now, read, reads_it, inl (early, two.0, two.1, refl))

  -- what a look brought
  pub looked : (is_open : Bool) (now : ℕ) (e0 e e' : Edge S H) (read : S) (moment : Option (Moment I O)) → e0 ≡ e
      → reads e0.sockets now read
      → MatchOption moment (LookPasses reads waits opens joins is_open now (record e0 { sockets = read }) e')
      (λ m. LookBrings reads waits opens joins is_open now (record e0 { sockets = read }) m e')
      → MatchOption moment (Passes reads waits opens joins is_open e e')
      (λ m. Brings reads waits opens joins is_open e m e')
  looked is_open now e0 e e' read None is reads_it passes =
      subst (λ x. Passes reads waits opens joins is_open x e') is (now, read, reads_it, passes)
  looked is_open now e0 e e' read (Some m) is reads_it brings =
      subst (λ x. Brings reads waits opens joins is_open x m e') is (now, read, reads_it, inr brings)

  -- one more time
  pub passes_more : (is_open : Bool) (many : ℕ) (e y e' : Edge S H)
      → PassesFor reads waits opens joins is_open many e y → Passes reads waits opens joins is_open y e'
      → PassesFor reads waits opens joins is_open (many + 1) e e'
  passes_more is_open many e y e' before passes =
      subst (λ n. PassesFor reads waits opens joins is_open n e e') (sym (add-one many)) (y, before, passes)
