use Rattle.hd_message.proofs.WalkLemmas.{still}
use Rattle.hd_message.proofs.values.first_values.Goals as goal

-- the field is passed for each identifier
pub loop-field-preserved : goal.loop-field-preserved
loop-field-preserved c =
    let moved = c.in-Some.ensures.steps in
    record {
      patron = still _ _ _ _ _ _ _ moved c.note.ensures.patron c.loop-field.invariant.patron;
      copy = still _ _ _ _ _ _ _ moved c.note.ensures.copy c.loop-field.invariant.copy;
      title = still _ _ _ _ _ _ _ moved c.note.ensures.title c.loop-field.invariant.title;
      branch = still _ _ _ _ _ _ _ moved c.note.ensures.branch c.loop-field.invariant.branch;
      cancel = still _ _ _ _ _ _ _ moved c.note.ensures.cancel c.loop-field.invariant.cancel;
      pickup = still _ _ _ _ _ _ _ moved c.note.ensures.pickup c.loop-field.invariant.pickup;
      expiry = still _ _ _ _ _ _ _ moved c.note.ensures.expiry c.loop-field.invariant.expiry;
      wanted = still _ _ _ _ _ _ _ moved c.note.ensures.wanted c.loop-field.invariant.wanted;
      name = still _ _ _ _ _ _ _ moved c.note.ensures.name c.loop-field.invariant.name;
      password = still _ _ _ _ _ _ _ moved c.note.ensures.password c.loop-field.invariant.password;
      patron_password =
          still _ _ _ _ _ _ _ moved c.note.ensures.patron_password c.loop-field.invariant.patron_password;
      first_item = still _ _ _ _ _ _ _ moved c.note.ensures.first_item c.loop-field.invariant.first_item;
      last_item = still _ _ _ _ _ _ _ moved c.note.ensures.last_item c.loop-field.invariant.last_item;
    }
