use Rattle.hd_exchange.proofs.status.write_status.Goals as goal

pub returns : goal.returns
returns g c = (
  _,
  record {
    status = record { date = c.as_slice.result; institution = c.institution.result };
    date = rw c.as_slice.ensures c.print-date.ensures.text;
    institution = c.institution.ensures.name;
    spelled = c.told_status.ensures.text;
  },
  c.write_reply.ensures.text,
  c.write_reply.ensures.short,
)
