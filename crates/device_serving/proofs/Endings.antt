-- What a run tells whose log tells no event: how each connection ended, and nothing else. And the loan of a log's
-- writer stays.
use Rattle.std.proofs.Common.{◌≡◌, ◌<◌, ◌≤◌, ◌&&◌, ℕ, zero, suc, ◌+◌, ◌^◌, Bool, true, false, List, [], ◌∷◌, length}
use Rattle.std.proofs.Common.{Option, Some, None, Ok, Err, refl, sym, ap, subst, ◌∙◌, inl, inr, arith, nat_le}
use Rattle.std.specs.Io.KnownBytes.{Appends}
use Rattle.std.proofs.KnownBytes.{Appends-nil, Appends-trans}
use Rattle.uecp_frame.specs.Findings.{Finding}
use Rattle.rds_store.specs.Value.{Store}
use Rattle.rds_store.specs.Step.{step as store_step}
use Rattle.uecp_encoder.specs.Target.{Step}
use Rattle.uecp_encoder.specs.State.{EncoderState, after_finding, raised}
use Rattle.uecp_encoder.specs.declared.serving.ServeFault.TheVariants.{ReadFailed, WriteFailed, TurnsSpent}
use Rattle.uecp_encoder.specs.declared.serving.KeptFault.TheVariants.{Serve, StateFailed}
use Rattle.uecp_encoder.specs.Answering.{response_to, bytes_sent}
use Rattle.uecp_encoder.specs.Keeping.{Kept}
use Rattle.uecp_encoder.specs.ServingWith.{Ended}
use Rattle.uecp_encoder.specs.Telling.{HearsEach, HearsWithin, HasHeard}
use Rattle.kept_jobs.specs.Stops.{Went}
use Rattle.device_serving.specs.declared.log_lines.LogFault.{LogFault}
use Rattle.device_serving.specs.EventLines.{event_lines}
use Rattle.device_serving.specs.ConnectionLines.{opened_lines, ended_lines, endings_lines}
use Rattle.device_serving.specs.Logging.{Log, IsTimeOf, WritesOn, LogsWhere, Logs, LogsEvent, one_more}
use Rattle.device_serving.specs.DeviceRun.{Standing, ServesAndTells, ServesNext, ServesFrom, TellsStore}
use Rattle.device_serving.specs.DeviceRun.{RunsDevice, are_objects, tells_first, went_after, stop_of}
use Rattle.device_serving.proofs.InOrder.{wrote_on}
use Rattle.kept_jobs.proofs.Public.{goes, stopped}

-- ---- The loan stays, whatever is written.
loan_on : (fault : Option LogFault) (lines : List ℕ) (l l' : Log) → WritesOn fault lines l l' → l'.loan ≡ l.loan
loan_on None lines l l' (inl (held, same)) = ap (λ (k : Log). k.loan) same
loan_on None lines l l' (inr (fault, broken, same)) = ap (λ (k : Log). k.loan) same
loan_on (Some fault) lines l l' same = ap (λ (k : Log). k.loan) same

loan_where : (told : Bool) (lines_of : List ℕ → List ℕ) (l l' : Log) → LogsWhere told lines_of l l'
    → l'.loan ≡ l.loan
loan_where true lines_of l l' (stamp, is_time, writes) = loan_on l.fault (lines_of stamp) l l' writes
loan_where false lines_of l l' same = ap (λ (k : Log). k.loan) same

loan_each : {V : Type 0} (step : Step V) (e : EncoderState V) (xs : List Finding) (l l' : Log)
    → HearsEach LogsEvent step e xs l l' → l'.loan ≡ l.loan
loan_each step e [] l l' same = ap (λ (k : Log). k.loan) same
loan_each step e (x ∷ xs) l l' (between, (event, tells, heard), rest) =
    loan_each step (after_finding step e x) xs between l' rest
    ∙ loan_where l.told (λ stamp. event_lines l.form stamp event true) l between heard

loan_within : {V : Type 0} (step : Step V) (e : EncoderState V) (xs : List Finding) (written : ℕ) (l l' : Log)
    → HearsWithin LogsEvent step e xs written l l' → l'.loan ≡ l.loan
loan_within step e [] written l l' same = ap (λ (k : Log). k.loan) same
loan_within step e (x ∷ xs) written l l' (between, (event, tells, heard), rest) =
    let reply : ℕ = length (bytes_sent (response_to step e x)) in
    loan_within step (after_finding step e x) xs _ between l' rest
    ∙ loan_where l.told (λ stamp. event_lines l.form stamp event (nat_le reply written)) l between heard

loan_heard : {V : Type 0} (most : ℕ) (step : Step V) (e e' : EncoderState V) (l l' : Log) (s sent : List ℕ)
    (ended : Ended) → HasHeard most LogsEvent step e e' l l' s sent ended → l'.loan ≡ l.loan
loan_heard most step e e' l l' s sent (Ok served) heard = loan_each step e _ l l' heard
loan_heard most step e e' l l' s sent (Err (Serve ReadFailed)) heard = loan_each step e _ l l' heard
loan_heard most step e e' l l' s sent (Err (Serve TurnsSpent)) heard = loan_each step e _ l l' heard
loan_heard most step e e' l l' s sent (Err (Serve (WriteFailed w))) (start, place, stops, heard) =
    loan_within step _ _ _ heard.before l' heard.unsent ∙ loan_each step e _ l heard.before heard.earlier
loan_heard most step e e' l l' s sent (Err StateFailed) (start, place, stops, heard) = loan_each step e _ l l' heard

-- ---- Where no event is told, a log that is told of some stays as it is.
quiet_each : {V : Type 0} (step : Step V) (e : EncoderState V) (xs : List Finding) (l l' : Log) → l.told ≡ false
    → HearsEach LogsEvent step e xs l l' → l' ≡ l
quiet_each step e [] l l' quiet same = same
quiet_each step e (x ∷ xs) l l' quiet (between, (event, tells, heard), rest) =
    let same : between ≡ l =
    subst (λ t. LogsWhere t (λ stamp. event_lines l.form stamp event true) l between) quiet heard in
    quiet_each step (after_finding step e x) xs between l' (ap (λ (k : Log). k.told) same ∙ quiet) rest ∙ same

quiet_within : {V : Type 0} (step : Step V) (e : EncoderState V) (xs : List Finding) (written : ℕ) (l l' : Log)
    → l.told ≡ false → HearsWithin LogsEvent step e xs written l l' → l' ≡ l
quiet_within step e [] written l l' quiet same = same
quiet_within step e (x ∷ xs) written l l' quiet (between, (event, tells, heard), rest) =
    let reply : ℕ = length (bytes_sent (response_to step e x)) in
    let same : between ≡ l =
    subst (λ t. LogsWhere t (λ stamp. event_lines l.form stamp event (nat_le reply written)) l between) quiet heard in
    quiet_within step (after_finding step e x) xs _ between l' (ap (λ (k : Log). k.told) same ∙ quiet) rest ∙ same

quiet_heard : {V : Type 0} (most : ℕ) (step : Step V) (e e' : EncoderState V) (l l' : Log) (s sent : List ℕ)
    (ended : Ended) → l.told ≡ false → HasHeard most LogsEvent step e e' l l' s sent ended → l' ≡ l
quiet_heard most step e e' l l' s sent (Ok served) quiet heard = quiet_each step e _ l l' quiet heard
quiet_heard most step e e' l l' s sent (Err (Serve ReadFailed)) quiet heard = quiet_each step e _ l l' quiet heard
quiet_heard most step e e' l l' s sent (Err (Serve TurnsSpent)) quiet heard = quiet_each step e _ l l' quiet heard
quiet_heard most step e e' l l' s sent (Err (Serve (WriteFailed w))) quiet (start, place, stops, heard) =
    let same = quiet_each step e _ l heard.before quiet heard.earlier in
    quiet_within step _ _ _ heard.before l' (ap (λ (k : Log). k.told) same ∙ quiet) heard.unsent ∙ same
quiet_heard most step e e' l l' s sent (Err StateFailed) quiet (start, place, stops, heard) =
    quiet_each step e _ l l' quiet heard

-- a run goes on after a connection only where its log has not ended
not_ended : (fault : Option LogFault) (ended : Ended) → goes ≡ went_after fault ended → fault ≡ None
not_ended None ended is = refl
not_ended (Some fault) ended is = absurd (let no : goes ≡ stopped (stop_of fault) = is in cc)

-- What the log got of one connection, and what else changed: it has one more.
record Told (ended : Ended) (l l' : Log) : Type 0 where
  pub held : Appends l.held l'.held (ended_lines l.form [] (raised l.number) ended)
  pub same : l' ≡ record l { number = raised l.number; held = l'.held }

module _ {V K C I O : Type 0} (most room : ℕ) (step : Step V) (leaves : K → Kept V → Type 0) (is_clean : K → Type 0)
    (saves fails : K → Kept V → K → Type 0) (opens : C → Option (I × O) → C → Type 0) (closes : C → I → O → C → Type 0)
    (remaining : I → Option (List ℕ)) (contents : O → Option (List ℕ)) (turns : ℕ) where
  abbrev Next : (x x' : Standing V K C) → Went → Type 0
  Next = ServesNext most room step leaves is_clean saves fails opens closes remaining contents turns

  abbrev From : (many : ℕ) → (x x' : Standing V K C) → Went → Type 0
  From = ServesFrom most room step leaves is_clean saves fails opens closes remaining contents turns

  abbrev Served : (x x' : Standing V K C) → Went → Type 0
  Served = ServesAndTells most room step leaves is_clean saves fails opens closes remaining contents turns

  next_loan : (x x' : Standing V K C) (went : Went) → Next x x' went → x'.log.loan ≡ x.log.loan
  next_loan x x' went (inl (none, same, is)) = ap (λ (y : Standing V K C). y.log.loan) same
  next_loan x x' went (inr s) =
      let (stamp, is_time, writes) = s.tells in
      let session = s.serves.6 in
      loan_on s.told.fault _ s.told x'.log writes
      ∙ loan_heard most step _ _ session.begun s.told _ _ s.ended session.heard
      ∙ loan_where x.log.told (λ stamp. opened_lines x.log.form stamp (raised x.log.number)) (one_more x.log)
      session.begun session.begins_so

  pub from_loan : (many : ℕ) (x x' : Standing V K C) (went : Went) → From many x x' went → x'.log.loan ≡ x.log.loan
  from_loan zero x x' went (same, is) = ap (λ (y : Standing V K C). y.log.loan) same
  from_loan (suc many) x x' went (inl (y, first, rest)) =
      from_loan many y x' went rest ∙ next_loan x y goes first
  from_loan (suc many) x x' went (inr (stop, first, is)) = next_loan x x' (stopped stop) first

  one_told : (x x' : Standing V K C) → x.log.told ≡ false → x.log.timed ≡ false → (s : Served x x' goes)
      → Told s.ended x.log x'.log
  one_told x x' quiet untimed s =
      let session = s.serves.6 in
      let begun : session.begun ≡ one_more x.log =
      subst (λ t. LogsWhere t (λ stamp. opened_lines x.log.form stamp (raised x.log.number)) (one_more x.log)
      session.begun) quiet session.begins_so in
      let told : s.told ≡ one_more x.log =
      quiet_heard most step _ _ session.begun s.told _ _ s.ended (ap (λ (k : Log). k.told) begun ∙ quiet) session.heard
      ∙ begun in
      let (stamp, is_time, writes) = subst (λ (k : Log). Logs (λ stamp. ended_lines k.form stamp k.number s.ended) k
      x'.log) told s.tells in
      let none : x'.log.fault ≡ None = not_ended x'.log.fault s.ended s.goes in
      let wrote = wrote_on x.log.fault (ended_lines x.log.form stamp (raised x.log.number) s.ended) (one_more x.log)
      x'.log refl (λ fault is. absurd (let no : None ≡ Some fault = sym none ∙ is in cc)) writes in
      let empty : stamp ≡ [] = subst (λ timed. IsTimeOf timed stamp) untimed is_time in
      record {
        held = subst (λ t. Appends x.log.held x'.log.held (ended_lines x.log.form t (raised x.log.number) s.ended))
            empty wrote.held;
        same = wrote.same;
      }

  next_told : (x x' : Standing V K C) → x.log.told ≡ false → x.log.timed ≡ false → Next x x' goes
      → (ended : Ended) × Told ended x.log x'.log
  next_told x x' quiet untimed (inl (none, same, is)) = cc
  next_told x x' quiet untimed (inr s) = (s.ended, one_told x x' quiet untimed s)

  -- The lines of so many connections, the first of which has this number.
  abbrev pub Endings : (many number : ℕ) → (l l' : Log) → Type 0
  Endings many number l l' = (endings : List Ended) × (length endings ≡ many)
      × Appends l.held l'.held (endings_lines l.form number endings)

  pub from_told : (many number : ℕ) (x x' : Standing V K C) → x.log.told ≡ false → x.log.timed ≡ false
      → x.log.number + 1 ≡ number → number + many ≤ 2 ^ 64 → From many x x' goes → Endings many number x.log x'.log
  from_told zero number x x' quiet untimed is small (same, done) =
      ([], refl, subst (λ (y : Standing V K C). Appends x.log.held y.log.held []) (sym same) (Appends-nil x.log.held))
  from_told (suc many) number x x' quiet untimed is small (inl (y, first, rest)) =
      let (ended, told) = next_told x y quiet untimed first in
      let counted : raised x.log.number ≡ number = omega (arith, is, small) in
      let is_next : y.log.number + 1 ≡ number + 1 =
      ap (λ (k : Log). k.number + 1) told.same ∙ ap (λ n. n + 1) counted in
      let (endings, count, lines) = from_told many (number + 1) y x' (ap (λ (k : Log). k.told) told.same ∙ quiet)
      (ap (λ (k : Log). k.timed) told.same ∙ untimed) is_next (omega (arith, small)) rest in (
        ended ∷ endings,
        ap suc count,
        Appends-trans _ _ _ _ _ (subst (λ n. Appends x.log.held y.log.held (ended_lines x.log.form [] n ended)) counted
            told.held) (subst (λ f. Appends y.log.held x'.log.held (endings_lines f (number + 1) endings))
            (ap (λ (k : Log). k.form) told.same) lines),
      )
  from_told (suc many) number x x' quiet untimed is small (inr (stop, first, done)) = cc

module _ {K C I O : Type 0} (most room : ℕ) (leaves : K → Kept Store → Type 0) (is_clean : K → Type 0)
    (saves fails : K → Kept Store → K → Type 0) (opens : C → Option (I × O) → C → Type 0)
    (closes : C → I → O → C → Type 0) (remaining : I → Option (List ℕ)) (contents : O → Option (List ℕ))
    (turns connections : ℕ) where
  abbrev Runs : (asked : Bool) → (x x' : Standing Store K C) → Went → Type 0
  Runs = RunsDevice most room leaves is_clean saves fails opens closes remaining contents turns connections

  store_loan : (asked : Bool) (store : Store) (l l' : Log) (went : Went) → TellsStore asked store l l' went
      → l'.loan ≡ l.loan
  store_loan true store l l' went (writes, is) = loan_on l.fault _ l l' writes
  store_loan false store l l' went (same, is) = ap (λ (k : Log). k.loan) same

  pub run_loan : (asked : Bool) (x x' : Standing Store K C) (went : Went) → Runs asked x x' went
      → x'.log.loan ≡ x.log.loan
  run_loan asked x x' went (inl (w, first, (inl (y, served, last)))) =
      store_loan asked y.encoder.value y.log x'.log went last.tells
      ∙ from_loan most room store_step leaves is_clean saves fails opens closes remaining contents turns connections w y
      goes served ∙ store_loan (tells_first x.log) x.encoder.value x.log w.log goes first.tells
  run_loan asked x x' went (inl (w, first, (inr (stop, served, is)))) =
      from_loan most room store_step leaves is_clean saves fails opens closes remaining contents turns connections w x'
      (stopped stop) served ∙ store_loan (tells_first x.log) x.encoder.value x.log w.log goes first.tells
  run_loan asked x x' went (inr (stop, first, is)) =
      store_loan (tells_first x.log) x.encoder.value x.log x'.log (stopped stop) first.tells

  -- a log that tells no event does not tell the store first
  not_first : (l l' : Log) (store : Store) (went : Went) → l.told ≡ false → TellsStore (tells_first l) store l l' went
      → l' ≡ l
  not_first l l' store went quiet tells =
      let none : tells_first l ≡ false = ap (λ b. b && are_objects l.form) quiet in
      (subst (λ b. TellsStore b store l l' went) none tells).0

  -- a whole run that came to its end and tells no store
  pub run_told : (x x' : Standing Store K C) → x.log.told ≡ false → x.log.timed ≡ false → x.log.number ≡ 0
      → connections < 2 ^ 64 → Runs false x x' goes
      → (endings : List Ended) × (length endings ≡ connections)
      × Appends x.log.held x'.log.held (endings_lines x.log.form 1 endings)
  run_told x x' quiet untimed none small (inl (w, first, (inl (y, served, last)))) =
      let begun : w.log ≡ x.log = not_first x.log w.log x.encoder.value goes quiet first.tells in
      let fresh : w.log.number ≡ 0 = ap (λ (l : Log). l.number) begun ∙ none in
      let told = from_told most room store_step leaves is_clean saves fails opens closes remaining contents turns
      connections 1 w y (ap (λ (l : Log). l.told) begun ∙ quiet) (ap (λ (l : Log). l.timed) begun ∙ untimed)
      (omega (arith, fresh)) (omega (arith, small)) served in
      let same : x'.log ≡ y.log = last.tells.0 in
      let P : Log → Type 0 = λ l. Appends l.held x'.log.held (endings_lines l.form 1 told.0) in (
        told.0,
        told.1,
        subst P begun
            (subst (λ (l : Log). Appends w.log.held l.held (endings_lines w.log.form 1 told.0)) (sym same) told.2),
      )
  run_told x x' quiet untimed none small (inl (w, first, (inr (stop, served, is)))) = cc
  run_told x x' quiet untimed none small (inr (stop, first, is)) = cc
