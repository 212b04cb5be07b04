use Rattle.std.proofs.Common.{◌≡◌, ◌∙◌, ◌<◌, ap, sym, subst, ℕ, length}
use Rattle.hd_rules.specs.Journal.{Turn}
use Rattle.hd_journal.specs.TurnLog.{TurnLog, kept_by, with_turn}
use Rattle.hd_journal.proofs.KeptLines.{turns_set, kept_set}
use Rattle.hd_journal.proofs.turn_log.TurnLog.add_change.Goals as goal

pub invariant_of-self : goal.invariant_of-self
invariant_of-self g c =
    let own : c.number-terminal.result ≡ c.args.turn.message.terminal =
    c.number-terminal.ensures.value ∙ c.terminal.ensures
    ∙ ap (λ (x : Turn). x.message.terminal) c.turn.view_is in
    let below : c.number-terminal.result < length c.self.inside.places.items =
    subst (λ (n : ℕ). n < length c.self.inside.places.items) (sym own)
    (subst (λ (x : TurnLog). c.args.turn.message.terminal < length x.places)
    (sym c.self.view_is) c.requires.terminal) in
    turns_set c.self.inside.turns.items c.push.new.self.items c.args.turn c.self.inside.places.items
    c.number-terminal.result
    c.len-place.result
    (record {
      goes_on = c.push.ensures.items;
      place = c.len-place.ensures;
      own = own;
      below = below;
      are = c.self.invariant;
    })

pub returns-clause-kept : goal.returns-clause-kept
returns-clause-kept g c =
    let own : c.number-terminal.result ≡ c.args.turn.message.terminal =
    c.number-terminal.ensures.value ∙ c.terminal.ensures
    ∙ ap (λ (x : Turn). x.message.terminal) c.turn.view_is in
    let below : c.number-terminal.result < length c.self.inside.places.items =
    subst (λ (n : ℕ). n < length c.self.inside.places.items) (sym own)
    (subst (λ (x : TurnLog). c.args.turn.message.terminal < length x.places)
    (sym c.self.view_is) c.requires.terminal) in
    kept_set c.self.inside.turns.items c.push.new.self.items c.args.turn c.self.inside.places.items
    c.number-terminal.result
    c.len-place.result
    (record {
      goes_on = c.push.ensures.items;
      place = c.len-place.ensures;
      own = own;
      below = below;
      are = c.self.invariant;
    })
    ∙ ap (λ (x : TurnLog). with_turn c.args.turn (kept_by x)) c.self.view_is
