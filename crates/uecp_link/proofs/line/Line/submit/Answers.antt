use Rattle.std.proofs.Common.{◌≡◌, ◌+◌, ◌<◌, ℕ, List, [], ◌∷◌, ◌++◌, ◌∙◌, ap, refl, sym, subst, length, vec_len}
use Rattle.std.proofs.Common.{vec_capacity}
use Rattle.std.proofs.Common.{arith, rules}
use Rattle.std.proofs.lemmas.List.{length-append}
use Rattle.std.proofs.lemmas.Bool.{false≢true}
use Rattle.uecp_elements.specs.declared.code.Code.{Code}
use Rattle.uecp_link.specs.declared.stepped.Stepped.TheVariants as stepped
use Rattle.uecp_link.specs.declared.refusal.LineRefusal.TheVariants as refusal
use Rattle.uecp_link.specs.Once.{Submit}
use Rattle.uecp_link.specs.Holds.{LineState, IsLine}
use Rattle.uecp_link.specs.Whole.{room_for}
use Rattle.uecp_link.specs.Next.{Goes, Stops}
use Rattle.uecp_link.proofs.Opening.{submits, lacks_memory, full_refuses}
use Rattle.uecp_link.proofs.Delivering.{goes_stays}
use Rattle.uecp_link.proofs.line.Line.submit.Goals as goal

pub returns-then-not-has_room-clause-stops : goal.returns-then-not-has_room-clause-stops
returns-then-not-has_room-clause-stops g c =
    let line : LineState _ = record {
      encoder = c.self.inside.encoder;
      server = c.self.inside.server;
      sent = c.self.inside.sent.items;
      codes = c.self.inside.codes.items;
    } in
    subst (λ (l : LineState _). Stops l (Submit c.args.message.now) refusal.Busy l) c.self.view_is
    (record {
      refuses = full_refuses line c.args.message.now c.self.invariant.is_line
          (λ room. false≢true (sym c.if-not-has_room.true ∙ c.has_room.ensures.1 room));
      unchanged = refl;
    })

pub returns-in_default-clause-stops : goal.returns-in_default-clause-stops
returns-in_default-clause-stops g c =
    let line : LineState _ = record {
      encoder = c.self.inside.encoder;
      server = c.self.inside.server;
      sent = c.self.inside.sent.items;
      codes = c.self.inside.codes.items;
    } in
    let after : LineState _ = record {
      encoder = c.self.inside.encoder;
      server = c.self.inside.server;
      sent = c.make_room.new.sent.items;
      codes = c.make_room.new.codes.items;
    } in
    let same : after ≡ line =
    ap (λ (x : List (List ℕ)). let l : LineState _ =
    record {
      encoder = c.self.inside.encoder;
      server = c.self.inside.server;
      sent = x;
      codes = c.make_room.new.codes.items;
    } in l) c.make_room.ensures.sent
    ∙ ap (λ (x : List Code). let l : LineState _ = record {
      encoder = c.self.inside.encoder;
      server = c.self.inside.server;
      sent = c.self.inside.sent.items;
      codes = x;
    } in l) c.make_room.ensures.codes in
    subst (λ (l : LineState _). Stops l (Submit c.args.message.now) refusal.OutOfMemory after) c.self.view_is
    (lacks_memory line after c.args.message.now c.self.invariant.is_line (c.has_room.ensures.0 c.if-not-has_room.false)
    same)

pub returns-clause-goes : goal.returns-clause-goes
returns-clause-goes g c =
    let line : LineState _ = record {
      encoder = c.self.inside.encoder;
      server = c.self.inside.server;
      sent = c.self.inside.sent.items;
      codes = c.self.inside.codes.items;
    } in
    let m : List ℕ = c.args.message.now in
    let number : c.len-number.result ≡ length line.sent = search rules in
    let sent : c.push_reserved.new.self.items ≡ line.sent ++ m ∷ [] =
    c.push_reserved.ensures.items ∙ ap (λ (xs : List (List ℕ)). xs ++ c.copy-copy.result ∷ []) c.make_room.ensures.sent
    ∙ ap (λ (x : List ℕ). line.sent ++ x ∷ []) c.copy-copy.ensures in
    let goes = submits g.T.Target.step g.T.Target.taken line m c.len-number.result c.self.invariant.is_line
    (c.has_room.ensures.0 c.if-not-has_room.false) number c.submit.new.self c.push_reserved.new.self.items
    c.submit.ensures
    sent in
    let here : Goes g.T.Target.step g.T.Target.taken line (Submit m) (stepped.Numbered c.len-number.result)
    (record {
      encoder = c.self.inside.encoder;
      server = c.submit.new.self;
      sent = c.push_reserved.new.self.items;
      codes = c.make_room.new.codes.items;
    }) =
    subst (λ (cs : List Code). Goes g.T.Target.step g.T.Target.taken line (Submit m)
    (stepped.Numbered c.len-number.result) (record {
      encoder = c.self.inside.encoder;
      server = c.submit.new.self;
      sent = c.push_reserved.new.self.items;
      codes = cs;
    }))
    (sym c.make_room.ensures.codes) goes in
    subst (λ (l : LineState _). Goes g.T.Target.step g.T.Target.taken l (Submit m)
    (stepped.Numbered c.len-number.result) (record {
      encoder = c.self.inside.encoder;
      server = c.submit.new.self;
      sent = c.push_reserved.new.self.items;
      codes = c.make_room.new.codes.items;
    })) c.self.view_is here

pub invariant_of-self-2 : goal.invariant_of-self-2
invariant_of-self-2 g c =
    let line : LineState _ = record {
      encoder = c.self.inside.encoder;
      server = c.self.inside.server;
      sent = c.self.inside.sent.items;
      codes = c.self.inside.codes.items;
    } in
    let m : List ℕ = c.args.message.now in
    let number : c.len-number.result ≡ length line.sent = search rules in
    let sent : c.push_reserved.new.self.items ≡ line.sent ++ m ∷ [] =
    c.push_reserved.ensures.items ∙ ap (λ (xs : List (List ℕ)). xs ++ c.copy-copy.result ∷ []) c.make_room.ensures.sent
    ∙ ap (λ (x : List ℕ). line.sent ++ x ∷ []) c.copy-copy.ensures in
    let goes = submits g.T.Target.step g.T.Target.taken line m c.len-number.result c.self.invariant.is_line
    (c.has_room.ensures.0 c.if-not-has_room.false) number c.submit.new.self c.push_reserved.new.self.items
    c.submit.ensures
    sent in
    let len : vec_len c.self.inside.sent ≡ length line.sent = search rules in
    let count : length c.push_reserved.new.self.items ≡ vec_len c.self.inside.sent + 1 =
    ap length sent ∙ length-append line.sent (m ∷ []) ∙ ap (λ (n : ℕ). n + 1) (sym len) in
    let left : vec_len c.self.inside.sent < vec_capacity c.make_room.new.sent = c.in-Ok.ensures.left in
    let sent_made : vec_capacity c.make_room.new.sent ≡ room_for (vec_len c.self.inside.sent + 1) =
    c.in-Ok.ensures.made.0 in
    let codes_made : vec_capacity c.make_room.new.codes ≡ room_for (vec_len c.self.inside.sent + 1) =
    c.in-Ok.ensures.made.1 in
    let here : IsLine (record {
      encoder = c.self.inside.encoder;
      server = c.submit.new.self;
      sent = c.push_reserved.new.self.items;
      codes = c.self.inside.codes.items;
    }) =
    goes_stays g.T.Target.step g.T.Target.taken line _ (Submit m) (stepped.Numbered c.len-number.result) (search rules)
    goes in
    record {
      is_line = subst (λ (cs : List Code).
          IsLine (record {
            encoder = c.self.inside.encoder;
            server = c.submit.new.self;
            sent = c.push_reserved.new.self.items;
            codes = cs;
          })) (sym c.make_room.ensures.codes) here;
      address_is = c.self.invariant.address_is;
      fits = omega (arith, count, left, codes_made, sent_made);
      sent_room_is = c.push_reserved.ensures.capacity ∙ sent_made ∙ ap room_for (sym count);
      code_room_is = codes_made ∙ ap room_for (sym count);
    }
