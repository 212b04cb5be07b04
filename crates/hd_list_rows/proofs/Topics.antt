-- What a look goes over is of the catalogue, where the number that is asked for is.
use Rattle.std.proofs.Common.{ℕ}
use Rattle.hd_lists.specs.Lists.{key_of}
use Rattle.hd_lists.specs.declared.list.Listing.TheVariants as list
use Rattle.hd_lists.specs.declared.list.Listing.{Listing}
use Rattle.hd_lists.specs.declared.question.Key.TheVariants.{Day, Most, Name, Number, Whole}
use Rattle.hd_lists.specs.declared.question.Key.{Key}
use Rattle.hd_rules.specs.Facts.{Facts}
use Rattle.hd_list_rows.specs.Topics.{IsNumberOf, IsTopicOf, topic_of}

pub topic_fits : (k : Facts) (l : Listing) (key : Key ℕ) → IsNumberOf k (key_of l) key
    → IsTopicOf k (topic_of l key)
topic_fits k list.Copy (Name n) fits = fits
topic_fits k list.Copy (Day n) fits = tt
topic_fits k list.Copy (Number n) fits = tt
topic_fits k list.Copy Whole fits = tt
topic_fits k list.Copy (Most n) fits = tt
topic_fits k list.Queue (Name n) fits = fits
topic_fits k list.Queue (Day n) fits = tt
topic_fits k list.Queue (Number n) fits = tt
topic_fits k list.Queue Whole fits = tt
topic_fits k list.Queue (Most n) fits = tt
topic_fits k list.Patron (Name n) fits = fits
topic_fits k list.Patron (Day n) fits = tt
topic_fits k list.Patron (Number n) fits = tt
topic_fits k list.Patron Whole fits = tt
topic_fits k list.Patron (Most n) fits = tt
topic_fits k list.Expired (Name n) fits = tt
topic_fits k list.Expired (Day n) fits = tt
topic_fits k list.Expired (Number n) fits = tt
topic_fits k list.Expired Whole fits = tt
topic_fits k list.Expired (Most n) fits = tt
topic_fits k list.Turns (Name n) fits = tt
topic_fits k list.Turns (Day n) fits = tt
topic_fits k list.Turns (Number n) fits = tt
topic_fits k list.Turns Whole fits = tt
topic_fits k list.Turns (Most n) fits = tt
topic_fits k list.Command (Name n) fits = tt
topic_fits k list.Command (Day n) fits = tt
topic_fits k list.Command (Number n) fits = tt
topic_fits k list.Command Whole fits = tt
topic_fits k list.Command (Most n) fits = tt
topic_fits k list.Copies key fits = tt
topic_fits k list.Shelf key fits = tt
topic_fits k list.Transits key fits = tt
topic_fits k list.Transit key fits = tt
topic_fits k list.Overdue key fits = tt
