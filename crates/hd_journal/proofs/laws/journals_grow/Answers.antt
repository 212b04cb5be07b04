use Rattle.hd_journal.proofs.Growing.{book_grows, kept_grows, leads_grow, stored_grows, listed_grows, changing_grows}
use Rattle.hd_journal.proofs.laws.journals_grow.Goals as goal

pub returns : goal.returns
returns c = record {
  book = book_grows;
  kept = λ r j turns kept grows range is. kept_grows r j turns kept grows range is;
  leads = λ r j d e grows low high. leads_grow r j grows low high d e;
  stored = stored_grows;
  listed = listed_grows;
  changing = changing_grows;
}
