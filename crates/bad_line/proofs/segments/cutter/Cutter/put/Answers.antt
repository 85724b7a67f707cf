use Rattle.std.proofs.Common.{◌++◌, ℕ, List, [], ◌∷◌, length, ap, ◌∙◌, sym}
use Rattle.bad_line.specs.Pieces.{out_of_segment}
use Rattle.bad_line.proofs.Bytes.{begins_by, outside_by, overlong_by, ends_by, none_held, some_held, all_but_one}
use Rattle.bad_line.proofs.segments.cutter.Cutter.put.Goals as goal

pub returns-then-byte-eq-START-clause-crosses : goal.returns-then-byte-eq-START-clause-crosses
returns-then-byte-eq-START-clause-crosses c =
    begins_by c.args.self.now c.self.inside.held.items c.push.new.self.items c.self.inside.faults c.args.byte
    c.args.out.now.items c.give.new.out.items c.self.view_is c.self.invariant c.if-byte-eq-START.true
    (c.push.ensures.items ∙ ap (λ (x : List ℕ). x ++ 0xFE ∷ []) c.clear.ensures)
    (c.give.ensures ∙ ap (λ (x : List ℕ). c.args.out.now.items ++ x) c.as_slice.ensures.value)

pub returns-then-is_empty-clause-crosses : goal.returns-then-is_empty-clause-crosses
returns-then-is_empty-clause-crosses c =
    outside_by c.args.self.now c.self.inside.held.items c.self.inside.faults c.args.byte c.args.out.now.items
    c.push-then-is_empty.new.self.items c.self.view_is
    (none_held c.self.inside.held.items (sym c.if-is_empty.true ∙ c.is_empty.ensures)) c.if-byte-eq-START.false
    c.push-then-is_empty.ensures.items

pub returns-then-byte-eq-END-clause-crosses : goal.returns-then-byte-eq-END-clause-crosses
returns-then-byte-eq-END-clause-crosses c =
    ends_by c.args.self.now c.self.inside.held.items c.end.new.held.items c.self.inside.faults
    c.pass-fate.new.self c.args.byte c.len.result c.pass-fate.result c.args.out.now.items c.end.new.out.items
    c.self.view_is c.self.invariant
    (some_held c.self.inside.held.items (sym c.if-is_empty.false ∙ c.is_empty.ensures)) c.if-byte-eq-END.true
    c.pass-fate.ensures.counted (c.len.ensures.value ∙ ap length c.push-2.ensures.items) c.pass-fate.ensures.fate
    c.end.ensures.held
    (c.end.ensures.given
    ∙ ap (λ (x : List ℕ). c.args.out.now.items ++ out_of_segment c.pass-fate.result x) c.push-2.ensures.items)

pub returns-then-is_full-clause-crosses : goal.returns-then-is_full-clause-crosses
returns-then-is_full-clause-crosses c =
    overlong_by c.args.self.now c.self.inside.held.items c.clear-then-is_full.new.self.items c.self.inside.faults
    c.args.byte c.args.out.now.items c.give-then-is_full.new.out.items c.self.view_is c.self.invariant
    (some_held c.self.inside.held.items (sym c.if-is_empty.false ∙ c.is_empty.ensures))
    (all_but_one c.self.inside.held.items c.push-2.new.self.items c.args.byte c.push-2.ensures.items
    (sym c.if-is_full.true ∙ c.is_full.ensures.value))
    c.if-byte-eq-START.false c.if-byte-eq-END.false c.clear-then-is_full.ensures
    (c.give-then-is_full.ensures
    ∙ ap (λ (x : List ℕ). c.args.out.now.items ++ x)
    (c.as_slice-then-is_full.ensures.value ∙ c.push-2.ensures.items))
