use Rattle.std.proofs.Common.{◌≡◌, codes}
use Rattle.std.specs.Option.{option_copied}
use Rattle.hd_message.proofs.WalkLemmas.{or_among}
use Rattle.hd_message.specs.Values.{first_value}
use Rattle.hd_message.proofs.values.first_values.Given as goal

-- each value that there is, or else the first that comes, is the first of the part
abbrev pub invariant-loop-field : goal.invariant-loop-field
invariant-loop-field l = record {
  patron : or_among (option_copied l.values.patron) (codes "AA") l.field-iterator
      ≡ first_value l.part (codes "AA");
  copy : or_among (option_copied l.values.copy) (codes "AB") l.field-iterator
      ≡ first_value l.part (codes "AB");
  title : or_among (option_copied l.values.title) (codes "AJ") l.field-iterator
      ≡ first_value l.part (codes "AJ");
  branch : or_among (option_copied l.values.branch) (codes "AP") l.field-iterator
      ≡ first_value l.part (codes "AP");
  cancel : or_among (option_copied l.values.cancel) (codes "BI") l.field-iterator
      ≡ first_value l.part (codes "BI");
  pickup : or_among (option_copied l.values.pickup) (codes "BS") l.field-iterator
      ≡ first_value l.part (codes "BS");
  expiry : or_among (option_copied l.values.expiry) (codes "BW") l.field-iterator
      ≡ first_value l.part (codes "BW");
  wanted : or_among (option_copied l.values.wanted) (codes "BY") l.field-iterator
      ≡ first_value l.part (codes "BY");
  name : or_among (option_copied l.values.name) (codes "CN") l.field-iterator
      ≡ first_value l.part (codes "CN");
  password : or_among (option_copied l.values.password) (codes "CO") l.field-iterator
      ≡ first_value l.part (codes "CO");
  patron_password : or_among (option_copied l.values.patron_password) (codes "AD") l.field-iterator
      ≡ first_value l.part (codes "AD");
  first_item : or_among (option_copied l.values.first_item) (codes "BP") l.field-iterator
      ≡ first_value l.part (codes "BP");
  last_item : or_among (option_copied l.values.last_item) (codes "BQ") l.field-iterator
      ≡ first_value l.part (codes "BQ");
}
