use Rattle.std.proofs.Common.{sym, subst}
use Rattle.hd_rules.specs.Facts.{first_number}
use Rattle.hd_rules.specs.Desk.{Desk, at_home}
use Rattle.hd_rules.specs.Sound.{Sound}
use Rattle.hd_rules.proofs.Reach.{home_sound}
use Rattle.hd_rules.proofs.Told.{row_keeps_sound, rows_keep_sound}
use Rattle.hd_rules.proofs.laws.rows_tell_a_sound_desk.Goals as goal

pub returns : goal.returns
returns c = record {
  each = row_keeps_sound;
  all = λ k rows may is.
      subst (λ (d : Desk). Sound k (first_number k) d) (sym is)
      (rows_keep_sound k (first_number k) (at_home k.home) rows (home_sound k (first_number k)) may);
}
