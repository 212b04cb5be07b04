-- The values of a line as the reader holds them.
use Rattle.hd_opening.specs.Lines.{HoldValues}
use Rattle.hd_opening.specs.declared.hold.HoldTexts.{HoldTexts}

abbrev pub hold_values : HoldTexts → HoldValues
hold_values texts =
    record {
      title = texts.title.now;
      patron = texts.patron.now;
      stamp = texts.stamp.now;
      admits = texts.admits.now;
      copy = texts.copy.now;
      pickup = texts.pickup.now;
      expiry = texts.expiry.now;
    }
