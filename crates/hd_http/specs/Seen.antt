-- What a reply answers.
use Rattle.hd_http.specs.declared.reply.Reply.{Reply}
use Rattle.hd_http.specs.Replies.{Answer}

-- the answer in a reply
abbrev pub seen : Reply → Answer
seen r = record { status = r.status; media = r.media; body = r.body.items }
