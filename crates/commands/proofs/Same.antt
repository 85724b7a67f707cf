-- An encoder in few words is asked for the same.
use Rattle.std.proofs.Common.{◌≡◌, ℕ, Bool, false, true, not, ◌||◌, Option, Some, None, refl}
use Rattle.std.specs.Prelude.{is_some}
use Rattle.std.proofs.lemmas.Bool.{eqb-true}
use Rattle.output_forms.specs.declared.form.Form.{Form}
use Rattle.output_forms.specs.declared.form.Form.TheVariants.{Lines, Words, Json}
use Rattle.commands.specs.declared.job.Job.TheVariants.{Encoder, EncoderWith}
use Rattle.commands.specs.declared.encoder_options.EncoderOptions.{EncoderOptions}
use Rattle.commands.specs.Jobs.{is_lines, is_device, in_full, short_encoder}

-- ---- an encoder of which nothing later is asked
full_encoder : (site encoder sets : ℕ) (services listen : _) (port : ℕ) (given air : Option ℕ) (air_bits : Bool)
    (connections turns : ℕ) (forever : Bool) (idle : ℕ) (yield_after : Option ℕ) (allow : _) (log : Bool)
    (log_wait : Option ℕ) (form : Form) (time store : Bool) (faults : _) (seed : ℕ) (state : _)
    → listen ≡ None → given ≡ Some port → air ≡ None → air_bits ≡ false → forever ≡ false
    → idle ≡ 0 → yield_after ≡ None → allow ≡ None → log ≡ false → log_wait ≡ None → form ≡ Lines → time ≡ true
    → store ≡ false → faults ≡ None → seed ≡ 0 → state ≡ None
    → in_full (Encoder site encoder sets services port connections turns)
    ≡ EncoderWith (record {
      site = site;
      encoder = encoder;
      sets = sets;
      services = services;
      listen = listen;
      port = given;
      air = air;
      air_bits = air_bits;
      connections = connections;
      turns = turns;
      forever = forever;
      idle = idle;
      yield_after = yield_after;
      allow = allow;
      log = log;
      log_wait = log_wait;
      form = form;
      time = time;
      store = store;
      faults = faults;
      seed = seed;
      state = state;
    })
full_encoder site encoder sets services listen port given air air_bits connections turns forever idle yield_after allow
    log log_wait form time store faults seed state a b c d e f y z g w h i j k l m = cc

-- ---- what is asked of it
none_of : {X : Type 0} (o : Option X) → is_some o ≡ false → o ≡ None
none_of None e = refl
none_of (Some x) e = absurd (let bad : true ≡ false = e in cc)

neither : (a b : Bool) → a || b ≡ false → (a ≡ false) × (b ≡ false)
neither false b e = (refl, e)
neither true b e = absurd (let bad : true ≡ false = e in cc)

holds : (b : Bool) → not b ≡ false → b ≡ true
holds true e = refl
holds false e = absurd (let bad : true ≡ false = e in cc)

lines_of : (form : Form) → is_lines form ≡ true → form ≡ Lines
lines_of Lines e = refl
lines_of (Words region) e = absurd (let bad : false ≡ true = e in cc)
lines_of Json e = absurd (let bad : false ≡ true = e in cc)

pub encoder_same : (later : Bool) (port : Option ℕ) (o : EncoderOptions) → is_device o || is_some o.state ≡ later
    → o.port ≡ port
    → in_full (short_encoder later port o) ≡ EncoderWith o
encoder_same true port o is given = refl
encoder_same false None o is given = refl
encoder_same false (Some port) o is given =
    let (no_device, state) = neither _ _ is in
    let (words, rest) = neither _ _ no_device in
    let (listen, words') = neither _ _ words in
    let (faults, air) = neither _ _ words' in
    let (flags, numbers) = neither _ _ rest in
    let (air_bits, flags') = neither _ _ flags in
    let (forever, flags'') = neither _ _ flags' in
    let (log, store) = neither _ _ flags'' in
    let (idle, numbers') = neither _ _ numbers in
    let (seed, last) = neither _ _ numbers' in
    let (time, last') = neither _ _ last in
    let (who, form) = neither _ _ last' in
    let (yield_after, who') = neither _ _ who in
    let (allow, log_wait) = neither _ _ who' in
    full_encoder o.site o.encoder o.sets o.services o.listen port o.port o.air o.air_bits o.connections o.turns
    o.forever o.idle o.yield_after o.allow o.log o.log_wait o.form o.time o.store o.faults o.seed o.state
    (none_of _ listen) given (none_of _ air)
    air_bits forever (eqb-true o.idle 0 (holds _ idle)) (none_of _ yield_after) (none_of _ allow) log
    (none_of _ log_wait) (lines_of o.form (holds _ form)) (holds _ time) store
    (none_of _ faults) (eqb-true o.seed 0 (holds _ seed)) (none_of _ state)
