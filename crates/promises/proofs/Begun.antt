-- What a crash leaves of how a run begins.
use Rattle.std.proofs.Common.{◌≡◌, ◌⊎◌, Bool, true, false, refl, sym, ap, subst, ◌∙◌, inl, inr}
use Rattle.uecp_link.specs.Server.{ServerState}
use Rattle.uecp_net.specs.Keeping.{KeptServer, kept_of, IsKept}
use Rattle.kept_jobs.specs.declared.stop.KeptStop.TheVariants.{StateFailed}
use Rattle.kept_jobs.specs.Stops.{Went, Then}
use Rattle.kept_jobs.specs.ServerRun.{Standing, anew, not_joined}
use Rattle.kept_jobs.proofs.Public.{goes, stopped, goes_not_stopped, HasBegun, LeftBegun}
use Rattle.output_forms.specs.declared.form.Form.{Form}
use Rattle.sending.specs.Beginning.{TellsTaken, BeginsAnew, BeginsAnewIf}

module _ {K : Type 0} (leaves : K → KeptServer → Type 0) (is_clean : K → Type 0)
    (saves fails : K → KeptServer → K → Type 0) (form : Form) where
  abbrev pub Was : Type 0
  Was = Standing ServerState K

  abbrev pub IsKeptOf : Was → Type 0
  IsKeptOf x = IsKept (leaves x.keeper) x.progress x.runs

  abbrev LeftOf : (due : Bool) → Was → KeptServer → Type 0
  LeftOf = LeftBegun leaves is_clean saves fails

  abbrev Has : (due : Bool) → (x y : Was) → Type 0
  Has = HasBegun leaves is_clean saves fails

  pub record Begun (due : Bool) (x y : Was) (went : Went) : Type 0 where
    pub clean : is_clean y.keeper → is_clean x.keeper
    pub settled : goes ≡ went → IsKeptOf x → is_clean y.keeper → IsKeptOf y
    pub outlives : IsKeptOf x → is_clean y.keeper → (left : KeptServer) → leaves y.keeper left → LeftOf due x left

  same_kept : (x y : Was) → y.progress ≡ x.progress → y.runs ≡ x.runs
      → kept_of y.progress y.runs ≡ kept_of x.progress x.runs
  same_kept x y progress runs =
      ap (λ p. kept_of p y.runs) progress ∙ ap (λ r. kept_of x.progress r) runs

  stays : (due : Bool) (x y : Was) (went : Went) → y.keeper ≡ x.keeper → y.progress ≡ x.progress → y.runs ≡ x.runs
      → Begun due x y went
  stays due x y went keeper progress runs = record {
    clean = λ clean. subst is_clean keeper clean;
    settled = λ is settled clean left leaves_it.
        settled left (subst (λ k. leaves k left) keeper leaves_it) ∙ sym (same_kept x y progress runs);
    outlives = λ settled clean left leaves_it. inl (settled left (subst (λ k. leaves k left) keeper leaves_it));
  }

  is_kept_still : (y : Was) (went : Went) → goes ≡ went → IsKeptOf y ⊎ (went ≡ stopped StateFailed) → IsKeptOf y
  is_kept_still y went is (inl kept) = kept
  is_kept_still y went is (inr failed) = absurd (goes_not_stopped StateFailed (is ∙ failed))

  begins_anew : (x w y : Was) (went : Went) → w.keeper ≡ x.keeper → w.progress ≡ x.progress → w.runs ≡ x.runs
      → BeginsAnew leaves is_clean saves fails form w y went → Begun true x y went
  begins_anew x w y went keeper progress runs anew_so = record {
    clean = λ clean. subst is_clean keeper (anew_so.clean clean);
    settled = λ is settled clean. is_kept_still y went is (anew_so.settled clean);
    outlives = λ settled clean left leaves_it. by settled left (anew_so.outlives clean left leaves_it);
  }
    where
      by : IsKeptOf x → (left : KeptServer) → leaves w.keeper left ⊎ (left ≡ kept_of y.progress y.runs)
          → LeftOf true x left
      by settled left (inl before) = inl (settled left (subst (λ k. leaves k left) keeper before))
      by settled left (inr new) =
          inr (
            refl,
            new ∙ ap (λ p. kept_of p y.runs) (anew_so.progress ∙ ap (λ p. not_joined p) progress)
                ∙ ap (λ r. kept_of (not_joined x.progress) r) (anew_so.new ∙ ap (λ r. anew r) runs),
          )

  pub begun_so : (due : Bool) (x y : Was) (went : Went)
      → Then (TellsTaken form) (BeginsAnewIf leaves is_clean saves fails form due) x y went → Begun due x y went
  begun_so false x y went (inl (w, (same, tells), (is_w, is))) =
      let all = is_w ∙ same in
      stays false x y went (ap (λ (s : Was). s.keeper) all) (ap (λ (s : Was). s.progress) all)
      (ap (λ (s : Was). s.runs) all)
  begun_so true x y went (inl (w, (same, tells), anew_so)) =
      begins_anew x w y went (ap (λ (s : Was). s.keeper) same) (ap (λ (s : Was). s.progress) same)
      (ap (λ (s : Was). s.runs) same) anew_so
  begun_so due x y went (inr (stop, (same, tells), is)) =
      stays due x y went (ap (λ (s : Was). s.keeper) same) (ap (λ (s : Was). s.progress) same)
      (ap (λ (s : Was). s.runs) same)

  pub has_begun : (due : Bool) (x y : Was)
      → Then (TellsTaken form) (BeginsAnewIf leaves is_clean saves fails form due) x y goes → Has due x y
  has_begun false x y (inl (w, (same, tells), (is_w, is))) =
      (ap (λ (s : Was). s.runs) (is_w ∙ same), ap (λ (s : Was). s.progress) (is_w ∙ same))
  has_begun true x y (inl (w, (same, tells), anew_so)) = (
    anew_so.new ∙ ap (λ r. anew r) (ap (λ (s : Was). s.runs) same),
    anew_so.progress ∙ ap (λ p. not_joined p) (ap (λ (s : Was). s.progress) same),
  )
  has_begun due x y (inr (stop, told, is)) = absurd (goes_not_stopped stop is)
