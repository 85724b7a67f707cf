-- What a crash leaves of what a sender does, call by call.
use Rattle.std.proofs.Common.{arith, ◌≡◌, ℕ, zero, suc, ◌+◌, ◌≤◌, List, Option, refl, sym, subst, ◌∙◌}
use Rattle.uecp_net.specs.Sending.{SenderOver}
use Rattle.uecp_net.specs.Keeping.{KeptServer, kept_of, IsKept}
use Rattle.uecp_net.specs.Laws.{Lives}
use Rattle.kept_jobs.specs.declared.stop.KeptStop.{KeptStop}
use Rattle.kept_jobs.specs.Stops.{Went}
use Rattle.kept_jobs.specs.ServerRun.{Standing}
use Rattle.kept_jobs.proofs.Outliving.{goes, stopped, goes_not_stopped}

module _ {C I O K : Type 0} (opens : C → Option (I × O) → C → Type 0) (closes : C → I → O → C → Type 0)
    (remaining : I → Option (List ℕ)) (contents : O → Option (List ℕ)) (leaves : K → KeptServer → Type 0)
    (is_clean : K → Type 0) (saves fails : K → KeptServer → K → Type 0) where
  abbrev pub At : Type 0
  At = Standing (SenderOver C I O) K

  abbrev pub IsKeptAt : At → Type 0
  IsKeptAt x = IsKept (leaves x.keeper) x.progress x.runs.sender.server

  abbrev pub kept_at : At → KeptServer
  kept_at x = kept_of x.progress x.runs.sender.server

  abbrev Live : (calls : ℕ) → (kept left : KeptServer) → Type 0
  Live = Lives opens closes remaining contents saves fails

  -- calls of which each goes on from the one before, and take so many messages at most
  pub record Chain (most : ℕ) (kept left : KeptServer) : Type 0 where
    pub calls : ℕ
    pub lives : Lives opens closes remaining contents saves fails calls kept left
    pub more : ℕ
    pub taken : left.taken ≡ kept.taken + more
    pub within : more ≤ most

  lives_on : (a : ℕ) (b : ℕ) (first mid last : KeptServer) → Live a first mid → Live b mid last
      → (calls : ℕ) × Live calls first last
  lives_on zero b first mid last same rest = (b, subst (λ k. Live b k last) same rest)
  lives_on (suc a) b first mid last (left, call, later) rest =
      let (calls, all) = lives_on a b left mid last later rest in (suc calls, (left, call, all))

  pub chain_none : (kept : KeptServer) → Chain 0 kept kept
  chain_none kept = record {
    calls = 0;
    lives = refl;
    more = 0;
    taken = omega arith;
    within = omega arith;
  }

  pub chain_on : (m n : ℕ) (first mid last : KeptServer) → Chain m first mid → Chain n mid last
      → Chain (m + n) first last
  chain_on m n first mid last a b =
      let (calls, all) = lives_on a.calls b.calls first mid last a.lives b.lives in record {
        calls = calls;
        lives = all;
        more = a.more + b.more;
        taken = (let one = a.taken in let two = b.taken in omega (arith, one, two));
        within = (let one = a.within in let two = b.within in omega (arith, one, two));
      }

  -- what a crash leaves after what went so
  pub record After (most : ℕ) (x x' : At) (went : Went) : Type 0 where
    pub clean : is_clean x'.keeper → is_clean x.keeper
    pub settled : goes ≡ went → IsKeptAt x → is_clean x'.keeper → IsKeptAt x'
    pub whole : Chain most (kept_at x) (kept_at x')
    pub outlives : IsKeptAt x → is_clean x'.keeper → (left : KeptServer) → leaves x'.keeper left
        → Chain most (kept_at x) left

  pub after_none : (x : At) (went : Went) → After 0 x x went
  after_none x went = record {
    clean = λ clean. clean;
    settled = λ is settled clean. settled;
    whole = chain_none (kept_at x);
    outlives = λ settled clean left leaves_it.
        subst (λ l. Chain 0 (kept_at x) l) (sym (settled left leaves_it)) (chain_none (kept_at x));
  }

  pub after_on : (m n : ℕ) (x y z : At) (went : Went) → After m x y goes → After n y z went → After (m + n) x z went
  after_on m n x y z went one rest = record {
    clean = λ clean. one.clean (rest.clean clean);
    settled = λ is settled clean. rest.settled is (one.settled refl settled (rest.clean clean)) clean;
    whole = chain_on m n (kept_at x) (kept_at y) (kept_at z) one.whole rest.whole;
    outlives = λ settled clean left leaves_it.
        chain_on m n (kept_at x) (kept_at y) left one.whole
        (rest.outlives (one.settled refl settled (rest.clean clean)) clean left leaves_it);
  }

  -- what stops goes no further
  pub after_stop : (m n : ℕ) (x x' : At) (stop : KeptStop) (went : Went) → went ≡ stopped stop
      → After m x x' (stopped stop) → After (m + n) x x' went
  after_stop m n x x' stop went is one = record {
    clean = one.clean;
    settled = λ done. absurd (goes_not_stopped stop (done ∙ is));
    whole = chain_on m n (kept_at x) (kept_at x') (kept_at x') one.whole (chain_up n (kept_at x'));
    outlives = λ settled clean left leaves_it.
        chain_on m n (kept_at x) left left (one.outlives settled clean left leaves_it) (chain_up n left);
  }
    where
      chain_up : (n : ℕ) (kept : KeptServer) → Chain n kept kept
      chain_up n kept = record {
        calls = 0;
        lives = refl;
        more = 0;
        taken = omega arith;
        within = omega arith;
      }
