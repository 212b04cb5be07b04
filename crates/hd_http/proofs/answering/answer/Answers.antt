use Rattle.hd_http.specs.Seen.{seen}
use Rattle.hd_http.proofs.answering.answer.Goals as goal

pub returns : goal.returns
returns g c = record {
  method = c.in_ok-method.method;
  reply = seen c.in_ok-method.reply;
  written = c.in_ok-write_reply.ensures;
  follows = c.sequel_of.ensures;
  read = c.in_ok-method.ensures.read;
  over = c.in_ok-method.ensures.over;
  unread = c.in_ok-method.ensures.unread;
}
