use Rattle.std.proofs.Common.{inl, inr, sym, subst, ◌∙◌}
use Rattle.sqlite.specs.Held.{state}
use Rattle.sqlite_image.specs.Kept.{Holds}
use Rattle.sqlite_image.proofs.KeepLemmas.{fresh_of, none_yet, holds_table}
use Rattle.sqlite_image.proofs.start.ready.Goals as goal

pub returns-in-Ok-clause-same : goal.returns-in-Ok-clause-same
returns-in-Ok-clause-same g c version image holds clean =
    let s = state g.S.Store c.args.conn.now in
    let new = state g.S.Store c.create.new.conn in
    let fresh = fresh_of s (c.requires (c.create.ensures.clean clean)) c.schema.ensures.live
    (sym c.schema.ensures.value ∙ c.is_fresh.ensures.is c.if-is_fresh.true) in
    let made = c.in-Ok.ensures.made fresh clean in
    subst (λ i. Holds version i new.now.trees) (sym (none_yet version image s.now holds fresh.has))
    (holds_table version _ new.now made.has)

pub returns-in-Ok-clause-left : goal.returns-in-Ok-clause-left
returns-in-Ok-clause-left g c version clean rows may =
    let s = state g.S.Store c.args.conn.now in
    let fresh = fresh_of s (c.requires (c.create.ensures.clean clean)) c.schema.ensures.live
    (sym c.schema.ensures.value ∙ c.is_fresh.ensures.is c.if-is_fresh.true) in
    elim ((c.create.ensures.crash version fresh).crash clean rows may) [
      | inl before ↦ inl before
      | inr made ↦ inr (fresh.has, made)
    ]

pub returns-in-Err-clause-left : goal.returns-in-Err-clause-left
returns-in-Err-clause-left g c version clean rows may =
    let s = state g.S.Store c.args.conn.now in
    let fresh = fresh_of s (c.requires (c.create.ensures.clean clean)) c.schema.ensures.live
    (sym c.schema.ensures.value ∙ c.is_fresh.ensures.is c.if-is_fresh.true) in
    elim ((c.create.ensures.crash version fresh).crash clean rows may) [
      | inl before ↦ inl before
      | inr made ↦ inr (fresh.has, made)
    ]

pub returns-in-Err-clause-refused : goal.returns-in-Err-clause-refused
returns-in-Err-clause-refused g c version = c.in-Err.ensures.plain version _
