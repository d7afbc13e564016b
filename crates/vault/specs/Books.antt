-- The entries of a book.
use Rattle.std.specs.Prelude.{List, map, vec_items}
use Rattle.history.specs.Contents.{Entry}
use Rattle.vault.specs.declared.book.Book.{Book}
use Rattle.vault.specs.Entries.{entry}

abbrev pub entries : Book → List Entry
entries b = map entry (vec_items b.records)
