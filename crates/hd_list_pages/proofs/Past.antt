-- Names past the last one.
use Rattle.std.proofs.Common.{◌≡◌, sym, ap, ℕ, ◌≤◌, None, List, length, option_map}
use Rattle.std.proofs.lemmas.Option.{slice_get_past}
use Rattle.hd_catalogue.specs.Contents.{Contents, branch_name, copy_name, facts_of, patron_name}
use Rattle.hd_catalogue.specs.Contents.{terminal_name, title_name}
use Rattle.hd_catalogue.specs.Names.{name_at}

past : {F : Type 0} (names : List (List ℕ × F)) (n : ℕ) → length names ≤ n → None ≡ name_at names n
past {F} names n le = sym (ap (option_map (λ (e : List ℕ × F). e.0)) (slice_get_past names n le))

pub no_copy : (k : Contents) (n : ℕ) → (facts_of k).copies ≤ n → None ≡ copy_name k n
unfolding facts_of copy_name
no_copy k n le = past k.copies n le

pub no_title : (k : Contents) (n : ℕ) → (facts_of k).titles ≤ n → None ≡ title_name k n
unfolding facts_of title_name
no_title k n le = past k.titles n le

pub no_branch : (k : Contents) (n : ℕ) → (facts_of k).branches ≤ n → None ≡ branch_name k n
unfolding facts_of branch_name
no_branch k n le = past k.branches n le

pub no_patron : (k : Contents) (n : ℕ) → (facts_of k).patrons ≤ n → None ≡ patron_name k n
unfolding facts_of patron_name
no_patron k n le = past k.patrons n le

pub no_terminal : (k : Contents) (n : ℕ) → (facts_of k).terminals ≤ n → None ≡ terminal_name k n
unfolding facts_of terminal_name
no_terminal k n le = past k.terminals n le
