-- The first line as the reader holds it.
use Rattle.hd_catalogue.specs.Lines.{Heading}
use Rattle.hd_catalogue.specs.declared.header.Heading.{Heading as TheHeading}

abbrev pub said_by : TheHeading → Heading
said_by heading =
    record {
      version = heading.version;
      institution = heading.institution.now;
      offset = heading.offset.now;
      limit = heading.limit.now;
    }
